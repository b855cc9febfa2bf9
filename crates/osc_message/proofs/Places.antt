-- An outstanding message at its place among the others, tick after tick.
use Rattle.std.proofs.Common.{◌≡◌, ℕ, List, [], ◌∷◌, ◌++◌, length, drop, map, refl, ap, ap₂, sym, ◌∙◌, append_assoc, Option, None, Some, arith}
use Rattle.std.specs.List.{filter_map, cons_option}
use Rattle.std.specs.Option.{option_to_list}
use Rattle.osc_model.specs.declared.node.Moment.{Moment}
use Rattle.osc_message.specs.declared.due.Due.{Due}
use Rattle.osc_message.specs.declared.due.Due.TheVariants.{Keep, Send, GiveUp}
use Rattle.osc_message.specs.Pace.{Pace}
use Rattle.osc_message.specs.{Sent, Open, outstanding_due, due_of, dues, dues_of, sent_again, after, ticked, done_at, done_over, first_done, done_among}
use Rattle.osc_message.proofs.Walk.{cons_option_is}

append_nil : (xs : List Open) → xs ++ [] ≡ xs
append_nil [] = refl
append_nil (x ∷ xs) = ap (λ ys. x ∷ ys) (append_nil xs)

-- what is due of two parts
dues_parts : (pace : Pace) (now : Moment) (all earlier xs ys : List Open) → dues pace now all earlier (xs ++ ys) ≡ dues pace now all earlier xs ++ dues pace now all (earlier ++ xs) ys
dues_parts pace now all earlier [] ys = ap (λ e. dues pace now all e ys) (sym (append_nil earlier))
dues_parts pace now all earlier (x ∷ xs) ys =
    ap (λ rest. (x, due_of pace now all earlier x x.sent) ∷ rest)
    (dues_parts pace now all (earlier ++ x ∷ []) xs ys ∙ ap (λ e. dues pace now all (earlier ++ x ∷ []) xs ++ dues pace now all e ys) (append_assoc earlier (x ∷ []) xs))

pub dues_at : (pace : Pace) (now : Moment) (front back : List Open) (message : Open) (sent : Sent) → message.sent ≡ Some sent
    → dues_of pace now (front ++ message ∷ back) ≡ dues pace now (front ++ message ∷ back) [] front
    ++ (message, outstanding_due now message sent) ∷ dues pace now (front ++ message ∷ back) (front ++ message ∷ []) back
dues_at pace now front back message sent went =
    let all = front ++ message ∷ back in
    dues_parts pace now all [] front (message ∷ back)
    ∙ ap (λ s. dues pace now all [] front ++ (message, due_of pace now all front message s) ∷ dues pace now all (front ++ message ∷ []) back) went

filter_parts : {A B : Type 0} (f : A → Option B) (xs ys : List A) → filter_map f (xs ++ ys) ≡ filter_map f xs ++ filter_map f ys
filter_parts f [] ys = refl
filter_parts {B = B} f (x ∷ xs) ys = by (f x) (filter_parts f xs ys)
  where
    by : (o : Option B) → filter_map f (xs ++ ys) ≡ filter_map f xs ++ filter_map f ys → cons_option o (filter_map f (xs ++ ys)) ≡ cons_option o (filter_map f xs) ++ filter_map f ys
    by None up = up
    by (Some y) up = ap (λ zs. y ∷ zs) up

pub stays_at : (pace : Pace) (now : Moment) (front back : List Open) (message : Open) (sent : Sent) → message.sent ≡ Some sent
    → ticked pace now (front ++ message ∷ back) ≡ filter_map (after now) (dues pace now (front ++ message ∷ back) [] front)
    ++ (option_to_list (after now (message, outstanding_due now message sent))
    ++ filter_map (after now) (dues pace now (front ++ message ∷ back) (front ++ message ∷ []) back))
stays_at pace now front back message sent went =
    let all = front ++ message ∷ back in
    let before = dues pace now all [] front in
    let behind = dues pace now all (front ++ message ∷ []) back in
    let one : Open × Due = (message, outstanding_due now message sent) in
    ap (λ pairs. filter_map (after now) pairs) (dues_at pace now front back message sent went)
    ∙ filter_parts (after now) before (one ∷ behind)
    ∙ ap (λ zs. filter_map (after now) before ++ zs) (cons_option_is (after now one) (filter_map (after now) behind))

-- ---- tick after tick

length_dues : (pace : Pace) (now : Moment) (all earlier xs : List Open) → length (dues pace now all earlier xs) ≡ length xs
length_dues pace now all earlier [] = refl
length_dues pace now all earlier (x ∷ xs) = omega (arith, length_dues pace now all (earlier ++ x ∷ []) xs)

drop_front : {A : Type 0} (xs ys : List A) (n : ℕ) → length xs ≡ n → drop n (xs ++ ys) ≡ ys
drop_front [] ys n is = rw (sym is) refl
drop_front (x ∷ xs) ys n is = rw (sym is) (drop_front xs ys (length xs) refl)

-- how it stands now doesn't matter, only how it stood when it was asked about
done_same : (message : Open) (other : Option Sent) (sent : Sent) (ticks : List Moment) → done_over (record message { sent = other }) sent ticks ≡ done_over message sent ticks
done_same message other sent [] = refl
done_same message other sent (now ∷ later) =
    ap₂ (λ kept again. done_at (outstanding_due now message sent) now kept again)
    (done_same message other sent later) (done_same message other (sent_again now (Some sent)) later)

first_is : (now : Moment) (message : Open) (sent : Sent) (due : Due) (rest : List (Open × Due)) (ticks : List (Moment × Pace × List Open × List Open)) → message.sent ≡ Some sent
    → ((m : Open) (s : Sent) → m.sent ≡ Some s → done_among ticks m ≡ done_over m s (map (λ tick. tick.0) ticks))
    → first_done now ((message, due) ∷ rest) (done_among ticks)
    ≡ done_at due now (done_over message sent (map (λ tick. tick.0) ticks)) (done_over message (sent_again now (Some sent)) (map (λ tick. tick.0) ticks))
first_is now message sent Keep rest ticks went up = up message sent went
first_is now message sent Send rest ticks went up =
    let again : Sent = sent_again now message.sent in
    let same : again ≡ sent_again now (Some sent) = ap (sent_again now) went in
    ap (λ zs. (now, Send) ∷ zs)
    (up (record message { sent = Some again }) again refl
    ∙ done_same message (Some again) again (map (λ tick. tick.0) ticks)
    ∙ ap (λ s. done_over message s (map (λ tick. tick.0) ticks)) same)
first_is now message sent GiveUp rest ticks went up = refl

pub done_is : (ticks : List (Moment × Pace × List Open × List Open)) (message : Open) (sent : Sent) → message.sent ≡ Some sent
    → done_among ticks message ≡ done_over message sent (map (λ tick. tick.0) ticks)
done_is [] message sent went = refl
done_is (tick ∷ later) message sent went =
    let now = tick.0 in
    let pace = tick.1 in
    let front = tick.2 in
    let back = tick.3 in
    let all = front ++ message ∷ back in
    let before = dues pace now all [] front in
    let split = drop_front before _ (length front) (length_dues pace now all [] front) in
    ap (λ pairs. first_done now pairs (done_among later)) (ap (drop (length front)) (dues_at pace now front back message sent went) ∙ split)
    ∙ first_is now message sent (outstanding_due now message sent) (dues pace now all (front ++ message ∷ []) back) later went (λ m s e. done_is later m s e)
