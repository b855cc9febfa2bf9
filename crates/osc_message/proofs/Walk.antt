-- A walk over a list, one place after another.
use Rattle.std.proofs.Common.{◌≡◌, ℕ, ◌+◌, ◌<◌, List, [], ◌∷◌, ◌++◌, length, take, drop, get_or, refl, ap, ap₂, sym, ◌∙◌, append_assoc, length-append, Option, Some, None, IfSome, arith}
use Rattle.std.proofs.lemmas.List.{take_more, drop_more, length-drop}
use Rattle.std.proofs.lemmas.List.Elements.{All-tail}
use Rattle.std.specs.List.{All, filter_map, zip, cons_option}
use Rattle.std.specs.Option.{option_to_list}
use Rattle.osc_model.specs.declared.node.Moment.{Moment}
use Rattle.osc_message.specs.{Open, IsBounded, messages, after}
use Rattle.osc_message.specs.declared.queued.Queued.{Queued}
use Rattle.osc_message.specs.declared.due.Due.{Due}

-- the member at a place, and those after it
pub taken_at : {X : Type 0} (xs : List X) (p : ℕ) (x : X) (later : List X) → p < length xs → drop p xs ≡ x ∷ later → take (p + 1) xs ≡ take p xs ++ x ∷ []
taken_at xs p x later inside split =
    let at : get_or xs p x ∷ drop (p + 1) xs ≡ x ∷ later = sym (drop_more xs p x inside) ∙ split in
    let same : get_or xs p x ≡ x = cc in
    take_more xs p x inside ∙ ap (λ y. take p xs ++ y ∷ []) same

pub dropped_at : {X : Type 0} (xs : List X) (p : ℕ) (x : X) (later : List X) → p < length xs → drop p xs ≡ x ∷ later → drop (p + 1) xs ≡ later
dropped_at xs p x later inside split =
    let at : get_or xs p x ∷ drop (p + 1) xs ≡ x ∷ later = sym (drop_more xs p x inside) ∙ split in
    cc

pub cons_option_is : {X : Type 0} (o : Option X) (xs : List X) → cons_option o xs ≡ option_to_list o ++ xs
cons_option_is None xs = refl
cons_option_is (Some x) xs = refl

-- one message's change, and what it leaves for the walk
pub changed : (now : Moment) (whole : List Open) (xs ys : List Queued) (ds : List Due) (p q i : ℕ) (due : Due) → p < length xs → i < length ds → due ≡ get_or ds i due
    → messages (take p xs) ++ filter_map (after now) (zip (messages (drop p xs)) (drop i ds)) ≡ whole
    → ((queued : Queued) (later : List Queued) → drop p xs ≡ queued ∷ later → messages (take q ys) ≡ messages (take p xs) ++ option_to_list (after now (queued.message, due)))
    → ((queued : Queued) (later : List Queued) → drop p xs ≡ queued ∷ later → messages (drop q ys) ≡ messages later)
    → messages (take q ys) ++ filter_map (after now) (zip (messages (drop q ys)) (drop (i + 1) ds)) ≡ whole
changed now whole xs ys ds p q i due inside more is before front back = by (drop p xs) refl
  where
    by : (rest : List Queued) → drop p xs ≡ rest → messages (take q ys) ++ filter_map (after now) (zip (messages (drop q ys)) (drop (i + 1) ds)) ≡ whole
    by [] split = absurd (omega (arith, length-drop p xs, ap length split))
    by (queued ∷ later) split =
        let others = drop (i + 1) ds in
        let rest = filter_map (after now) (zip (messages later) others) in
        let next : drop i ds ≡ due ∷ others = drop_more ds i due more ∙ ap (λ d. d ∷ others) (sym is) in
        ap₂ (λ a b. a ++ filter_map (after now) (zip b others)) (front queued later split) (back queued later split)
        ∙ append_assoc (messages (take p xs)) (option_to_list (after now (queued.message, due))) rest
        ∙ ap (λ zs. messages (take p xs) ++ zs) (sym (cons_option_is (after now (queued.message, due)) rest))
        ∙ ap₂ (λ a b. messages (take p xs) ++ filter_map (after now) (zip (messages a) b)) (sym split) (sym next)
        ∙ before

pub still_bounded : (xs ys : List Queued) (p q : ℕ) → p < length xs → All IsBounded (messages (drop p xs))
    → ((queued : Queued) (later : List Queued) → drop p xs ≡ queued ∷ later → messages (drop q ys) ≡ messages later) → All IsBounded (messages (drop q ys))
still_bounded xs ys p q inside all back = by (drop p xs) refl all
  where
    by : (rest : List Queued) → drop p xs ≡ rest → All IsBounded (messages rest) → All IsBounded (messages (drop q ys))
    by [] split all = absurd (omega (arith, length-drop p xs, ap length split))
    by (queued ∷ later) split all = rw (back queued later split) (All-tail IsBounded queued.message (messages later) all)

-- one more is put after the outcome of those before
pub added : {Y : Type 0} (f : Open × Due → Option Y) (pair : Open × Due) (old new total : List Y) (pairs rest : List (Open × Due)) → pairs ≡ pair ∷ rest
    → old ++ filter_map f pairs ≡ total → new ≡ old ++ option_to_list (f pair) → new ++ filter_map f rest ≡ total
added f pair old new total pairs rest split before is =
    ap (λ ys. ys ++ filter_map f rest) is
    ∙ append_assoc old (option_to_list (f pair)) (filter_map f rest)
    ∙ ap (λ ys. old ++ ys) (sym (cons_option_is (f pair) (filter_map f rest)) ∙ ap (filter_map f) (sym split))
    ∙ before

-- the same, where what is put there may be lost
pub added_or_lost : {Y : Type 0} (f : Open × Due → Option Y) (pair : Open × Due) (old new : Option (List Y)) (total : List Y) (pairs rest : List (Open × Due)) → pairs ≡ pair ∷ rest
    → IfSome old (λ ys. ys ++ filter_map f pairs ≡ total)
    → IfSome new (λ more. (before : List Y) × (old ≡ Some before) × (more ≡ before ++ option_to_list (f pair)))
    → IfSome new (λ ys. ys ++ filter_map f rest ≡ total)
added_or_lost f pair old None total pairs rest split before is = tt
added_or_lost f pair None (Some more) total pairs rest split before (given, was, is) = absurd (cc)
added_or_lost f pair (Some ys) (Some more) total pairs rest split before (given, was, is) =
    let same : ys ≡ given = cc in
    added f pair ys more total pairs rest split before (is ∙ ap (λ b. b ++ option_to_list (f pair)) (sym same))

-- one more is counted
pub one_counted : {Y : Type 0} (f : Open × Due → Option Y) (pair : Open × Due) (old one total : ℕ) (pairs rest : List (Open × Due)) → pairs ≡ pair ∷ rest
    → old + length (filter_map f pairs) ≡ total → one ≡ length (option_to_list (f pair)) → old + one + length (filter_map f rest) ≡ total
one_counted f pair old one total pairs rest split whole is =
    let here : filter_map f pairs ≡ option_to_list (f pair) ++ filter_map f rest = ap (filter_map f) split ∙ cons_option_is (f pair) (filter_map f rest) in
    omega (arith, whole, is, ap length here, length-append (option_to_list (f pair)) (filter_map f rest))
