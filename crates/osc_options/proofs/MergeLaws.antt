-- What merging two lists of options gives.
use Rattle.std.proofs.Common.{◌≡◌, ℕ, ◌+◌, ◌-◌, ◌<◌, ◌≤◌, Bool, true, false, ◌==◌, Option, Some, None, length, List, [], ◌∷◌, ◌++◌, refl, sym, ap, subst, ◌∙◌, append_assoc, eq-eqb, ltb-true, arith, inl, inr}
use Rattle.std.specs.Prelude.{filter, MatchOption}
use Rattle.std.specs.Iterator.{MakesProgress, item_count}
use Rattle.std.proofs.lemmas.Bool.{cases_Bool, cases_lt, cases_eq, le-ltb, lt-ltb, ltb-false, ne_eqb, eqb-true}
use Rattle.std.proofs.lemmas.List.{append-nil}
use Rattle.osc_coap.specs.{NumberAndValue, IsOptionBehind, AreOptions, extension_length, option_length, options_length}
use Rattle.osc_options.specs.{insert, merge, of_number, AreInOrder, behind_front}
use Rattle.osc_options.specs.Inner.Merging.{is_inner_next}

-- ---- in order

-- in order after a smaller number
pub AreInOrder_below : (low high : ℕ) (options : List NumberAndValue) → low ≤ high → AreInOrder high options → AreInOrder low options
AreInOrder_below low high [] le p = tt
AreInOrder_below low high (option ∷ options) le p = (omega (arith, p.0), p.1)

-- options are in order
pub AreInOrder-options : (before : ℕ) (options : List NumberAndValue) → AreOptions before options → AreInOrder before options
AreInOrder-options before [] p = tt
AreInOrder-options before (option ∷ options) p = (p.0.rises, AreInOrder-options option.0 options p.1)

-- without the first, whatever its number
pub AreInOrder-rest : (option : NumberAndValue) (options all : List NumberAndValue) → all ≡ option ∷ options → AreInOrder 0 all → AreInOrder 0 options
AreInOrder-rest option options all e p =
    let whole = subst (AreInOrder 0) e p in
    AreInOrder_below 0 option.0 options (omega arith) whole.1

-- some left out
pub AreInOrder-filter : (keeps : NumberAndValue → Bool) (before : ℕ) (options : List NumberAndValue) → AreInOrder before options → AreInOrder before (filter keeps options)
AreInOrder-filter keeps before [] p = tt
AreInOrder-filter keeps before (option ∷ options) p =
    let rest = AreInOrder-filter keeps option.0 options p.1 in
    elim (cases_Bool (keeps option)) [
      | inl kept ↦ rw kept (p.0, rest)
      | inr out ↦ rw out (AreInOrder_below before option.0 (filter keeps options) p.0 rest)
    ]

-- ---- one option put in

pub insert_before : (option first : NumberAndValue) (options : List NumberAndValue) → option.0 < first.0 → insert option (first ∷ options) ≡ option ∷ first ∷ options
insert_before option first options lt = rw (lt-ltb option.0 first.0 lt) refl

pub insert_behind : (option first : NumberAndValue) (options : List NumberAndValue) → first.0 ≤ option.0 → insert option (first ∷ options) ≡ first ∷ insert option options
insert_behind option first options le = rw (le-ltb option.0 first.0 le) refl

pub AreInOrder-insert : (option : NumberAndValue) (before : ℕ) (options : List NumberAndValue) → before ≤ option.0 → AreInOrder before options → AreInOrder before (insert option options)
AreInOrder-insert option before [] le p = (le, tt)
AreInOrder-insert option before (first ∷ options) le p =
    elim (cases_lt option.0 first.0) [
      | inl lt ↦ rw (insert_before option first options lt) (le, (omega arith, p.1))
      | inr other ↦ rw (insert_behind option first options other) (p.0, AreInOrder-insert option first.0 options other p.1)
    ]

-- ---- step by step

-- an outer option is before inner ones of no smaller number
pub merge-first : (option : NumberAndValue) (outer inner : List NumberAndValue) → AreInOrder option.0 inner → merge (option ∷ outer) inner ≡ option ∷ merge outer inner
merge-first option outer [] behind = refl
merge-first option outer (first ∷ inner) behind =
    ap (λ (o : List NumberAndValue). merge o inner) (insert_behind first option outer behind.0)
    ∙ merge-first option (insert first outer) inner (AreInOrder_below option.0 first.0 inner behind.0 behind.1)

-- nothing outside
pub merge-none : (before : ℕ) (inner : List NumberAndValue) → AreInOrder before inner → merge [] inner ≡ inner
merge-none before [] p = refl
merge-none before (first ∷ inner) p = merge-first first [] inner p.1 ∙ ap (λ (rest : List NumberAndValue). first ∷ rest) (merge-none first.0 inner p.1)

-- an inner option of a smaller number is first
pub first_inner : (option first : NumberAndValue) (outer inner : List NumberAndValue) → first.0 < option.0 → AreInOrder first.0 inner → merge (option ∷ outer) (first ∷ inner) ≡ first ∷ merge (option ∷ outer) inner
first_inner option first outer inner lt p =
    ap (λ (o : List NumberAndValue). merge o inner) (insert_before first option outer lt) ∙ merge-first first (option ∷ outer) inner p

-- else the outer one is
pub first_outer : (option first : NumberAndValue) (outer inner : List NumberAndValue) → option.0 ≤ first.0 → AreInOrder first.0 inner → merge (option ∷ outer) (first ∷ inner) ≡ option ∷ merge outer (first ∷ inner)
first_outer option first outer inner le p = merge-first option outer (first ∷ inner) (le, p)

-- an outer option is before inner ones after it
pub merge-outer : (option : NumberAndValue) (outer inner : List NumberAndValue) → AreOptions option.0 inner → merge (option ∷ outer) inner ≡ option ∷ merge outer inner
merge-outer option outer inner behind = merge-first option outer inner (AreInOrder-options option.0 inner behind)

-- two lists in order are one in order
pub AreInOrder-merge : (before : ℕ) (outer inner : List NumberAndValue) → AreInOrder before outer → AreInOrder before inner → AreInOrder before (merge outer inner)
AreInOrder-merge before outer [] p q = p
AreInOrder-merge before outer (option ∷ inner) p q = AreInOrder-merge before (insert option outer) inner (AreInOrder-insert option before outer q.0 p) (AreInOrder_below before option.0 inner q.0 q.1)

-- ---- they are options

abbrev AreMerged : List NumberAndValue → Type 0
AreMerged outer = (before : ℕ) (inner : List NumberAndValue) → AreOptions before outer → AreOptions before inner → AreOptions before (merge outer inner)

-- with one outer option more
AreOptions-first : (option : NumberAndValue) (outer : List NumberAndValue) → AreMerged outer → (before : ℕ) (inner : List NumberAndValue) → AreOptions before (option ∷ outer) → AreOptions before inner → AreOptions before (merge (option ∷ outer) inner)
AreOptions-first option outer others before [] p q = p
AreOptions-first option outer others before (first ∷ inner) p q =
    elim (cases_lt first.0 option.0) [
      | inl lt ↦
          let closer : IsOptionBehind first.0 option = record { rises = omega arith; number = p.0.number; size = p.0.size } in
          rw (first_inner option first outer inner lt (AreInOrder-options first.0 inner q.1)) (q.0, AreOptions-first option outer others first.0 inner (closer, p.1) q.1)
      | inr le ↦
          let closer : IsOptionBehind option.0 first = record { rises = le; number = q.0.number; size = q.0.size } in
          rw (first_outer option first outer inner le (AreInOrder-options first.0 inner q.1)) (p.0, others option.0 (first ∷ inner) p.1 (closer, q.1))
    ]

-- two lists of options make options
pub AreOptions-merge : (before : ℕ) (outer inner : List NumberAndValue) → AreOptions before outer → AreOptions before inner → AreOptions before (merge outer inner)
AreOptions-merge before [] inner p q = subst (AreOptions before) (sym (merge-none before inner (AreInOrder-options before inner q))) q
AreOptions-merge before (option ∷ outer) inner p q = AreOptions-first option outer (λ before inner p q. AreOptions-merge before outer inner p q) before inner p q

-- ---- how long they are

-- a smaller step takes no more bytes
extension_length_rises : (m n : ℕ) → m ≤ n → extension_length m ≤ extension_length n
extension_length_rises m n le =
    elim (cases_lt n 13) [
      | inl lt ↦ rw (lt-ltb m 13 (omega arith), lt-ltb n 13 lt) (omega arith)
      | inr large ↦ elim (cases_lt n 269) [
        | inl lt ↦ elim (cases_lt m 13) [
          | inl small ↦ rw (lt-ltb m 13 small) (omega arith)
          | inr middle ↦ rw (le-ltb m 13 middle, lt-ltb m 269 (omega arith), le-ltb n 13 large, lt-ltb n 269 lt) (omega arith)
        ]
        | inr wide ↦ elim (cases_lt m 13) [
          | inl small ↦ rw (lt-ltb m 13 small) (omega arith)
          | inr middle ↦ elim (cases_lt m 269) [
            | inl lt ↦ rw (le-ltb m 13 middle, lt-ltb m 269 lt, le-ltb n 13 large, le-ltb n 269 wide) (omega arith)
            | inr both ↦ rw (le-ltb m 13 middle, le-ltb m 269 both, le-ltb n 13 large, le-ltb n 269 wide) (omega arith)
          ]
        ]
      ]
    ]

-- an option after a larger number is no longer
pub option_length_closer : (low high : ℕ) (option : NumberAndValue) → low ≤ high → option_length high option ≤ option_length low option
option_length_closer low high option le = omega (arith, extension_length_rises (option.0 - high) (option.0 - low) (omega arith))

abbrev IsShort : List NumberAndValue → Type 0
IsShort outer = (before : ℕ) (inner : List NumberAndValue) → AreOptions before outer → AreOptions before inner → options_length before (merge outer inner) ≤ options_length before outer + options_length before inner

-- with one outer option more
options_length-first : (option : NumberAndValue) (outer : List NumberAndValue) → IsShort outer → (before : ℕ) (inner : List NumberAndValue) → AreOptions before (option ∷ outer) → AreOptions before inner
    → options_length before (merge (option ∷ outer) inner) ≤ options_length before (option ∷ outer) + options_length before inner
options_length-first option outer others before [] p q = omega arith
options_length-first option outer others before (first ∷ inner) p q =
    elim (cases_lt first.0 option.0) [
      | inl lt ↦
          let closer : IsOptionBehind first.0 option = record { rises = omega arith; number = p.0.number; size = p.0.size } in
          let rest = options_length-first option outer others first.0 inner (closer, p.1) q.1 in
          rw (first_inner option first outer inner lt (AreInOrder-options first.0 inner q.1)) (omega (arith, rest, option_length_closer before first.0 option q.0.rises))
      | inr le ↦
          let closer : IsOptionBehind option.0 first = record { rises = le; number = q.0.number; size = q.0.size } in
          let rest = others option.0 (first ∷ inner) p.1 (closer, q.1) in
          rw (first_outer option first outer inner le (AreInOrder-options first.0 inner q.1)) (omega (arith, rest, option_length_closer before option.0 first p.0.rises))
    ]

-- the two lists in one take no more bytes than each alone
pub options_length-merge : (before : ℕ) (outer inner : List NumberAndValue) → AreOptions before outer → AreOptions before inner → options_length before (merge outer inner) ≤ options_length before outer + options_length before inner
options_length-merge before [] inner p q = omega (arith, ap (options_length before) (merge-none before inner (AreInOrder-options before inner q)))
options_length-merge before (option ∷ outer) inner p q = options_length-first option outer (λ before inner p q. options_length-merge before outer inner p q) before inner p q

-- ---- of each number

abbrev has : ℕ → NumberAndValue → Bool
has number option = option.0 == number

-- no smaller number is there
none_below : (number before : ℕ) (options : List NumberAndValue) → number < before → AreInOrder before options → of_number number options ≡ []
none_below number before [] lt p = refl
none_below number before (option ∷ options) lt p =
    rw (ne_eqb option.0 number (λ e. omega (arith, p.0, e))) (none_below number option.0 options (omega (arith, p.0)) p.1)

of_number-insert : (number before : ℕ) (option : NumberAndValue) (options : List NumberAndValue) → AreInOrder before options → of_number number (insert option options) ≡ of_number number options ++ of_number number (option ∷ [])
of_number-insert number before option [] p = refl
of_number-insert number before option (first ∷ options) p =
    elim (cases_lt option.0 first.0) [
      | inl lt ↦
          rw (insert_before option first options lt) (elim (cases_Bool (option.0 == number)) [
            | inl same ↦
                let is : option.0 ≡ number = eqb-true option.0 number same in
                rw (same, none_below number first.0 (first ∷ options) (omega (arith, is)) (omega arith, p.1)) refl
            | inr other ↦ rw other (sym (append-nil _))
          ])
      | inr le ↦
          rw (insert_behind option first options le) (elim (cases_Bool (first.0 == number)) [
            | inl same ↦ rw same (ap (λ (rest : List NumberAndValue). first ∷ rest) (of_number-insert number first.0 option options p.1))
            | inr other ↦ rw other (of_number-insert number first.0 option options p.1)
          ])
    ]

of_number-cons : (number : ℕ) (option : NumberAndValue) (options : List NumberAndValue) → of_number number (option ∷ options) ≡ of_number number (option ∷ []) ++ of_number number options
of_number-cons number option options = elim (cases_Bool (option.0 == number)) [ inl same ↦ rw same refl | inr other ↦ rw other refl ]

-- of each number the outer options, then the inner ones
pub of_number-merge : (number before : ℕ) (outer inner : List NumberAndValue) → AreInOrder before outer → AreInOrder before inner → of_number number (merge outer inner) ≡ of_number number outer ++ of_number number inner
of_number-merge number before outer [] p q = sym (append-nil _)
of_number-merge number before outer (option ∷ inner) p q =
    of_number-merge number before (insert option outer) inner (AreInOrder-insert option before outer q.0 p) (AreInOrder_below before option.0 inner q.0 q.1)
    ∙ ap (λ (front : List NumberAndValue). front ++ of_number number inner) (of_number-insert number before option outer p)
    ∙ append_assoc (of_number number outer) (of_number number (option ∷ [])) (of_number number inner)
    ∙ ap (λ (back : List NumberAndValue). of_number number outer ++ back) (sym (of_number-cons number option inner))

-- ---- which determines them

abbrev SameOfEach : List NumberAndValue → List NumberAndValue → Type 0
SameOfEach a b = (number : ℕ) → of_number number a ≡ of_number number b

one_first : (a b : NumberAndValue) (xs ys : List NumberAndValue) → (a ∷ xs) ≡ (b ∷ ys) → a ≡ b
one_first a b xs ys e = cc

one_rest : (a b : NumberAndValue) (xs ys : List NumberAndValue) → (a ∷ xs) ≡ (b ∷ ys) → xs ≡ ys
one_rest a b xs ys e = cc

taken : (option : NumberAndValue) (options : List NumberAndValue) (number : ℕ) → option.0 ≡ number → of_number number (option ∷ options) ≡ option ∷ of_number number options
taken option options number e = rw (eq-eqb option.0 number e) refl

left : (option : NumberAndValue) (options : List NumberAndValue) (number : ℕ) → (option.0 ≡ number → ⊥) → of_number number (option ∷ options) ≡ of_number number options
left option options number other = rw (ne_eqb option.0 number other) refl

nothing : (option : NumberAndValue) (options : List NumberAndValue) → (option ∷ options) ≡ [] → ⊥
nothing option options e = cc

-- a first option has the least number
not_below : (a b : NumberAndValue) (xs ys : List NumberAndValue) → AreInOrder b.0 ys → SameOfEach (a ∷ xs) (b ∷ ys) → a.0 < b.0 → ⊥
not_below a b xs ys q same lt =
    nothing a (of_number a.0 xs) (sym (taken a xs a.0 refl) ∙ same a.0 ∙ none_below a.0 b.0 (b ∷ ys) lt (omega arith, q))

pub one_order : (before : ℕ) (a b : List NumberAndValue) → AreInOrder before a → AreInOrder before b → SameOfEach a b → a ≡ b
one_order before [] [] p q same = refl
one_order before [] (option ∷ b) p q same = absurd (nothing option (of_number option.0 b) (sym (taken option b option.0 refl) ∙ sym (same option.0)))
one_order before (option ∷ a) [] p q same = absurd (nothing option (of_number option.0 a) (sym (taken option a option.0 refl) ∙ same option.0))
one_order before (x ∷ a) (y ∷ b) p q same =
    let number : x.0 ≡ y.0 =
    elim (cases_lt x.0 y.0) [
      | inl lt ↦ absurd (not_below x y a b q.1 same lt)
      | inr le ↦ elim (cases_lt y.0 x.0) [
        | inl lt ↦ absurd (not_below y x b a p.1 (λ n. sym (same n)) lt)
        | inr ge ↦ omega arith
      ]
    ] in
    let heads = sym (taken x a x.0 refl) ∙ same x.0 ∙ taken y b x.0 (sym number) in
    let first : x ≡ y = one_first x y _ _ heads in
    let rests : SameOfEach a b = λ n. elim (cases_eq x.0 n) [
      | inl is ↦ one_rest x y _ _ (sym (taken x a n is) ∙ same n ∙ taken y b n (sym number ∙ is))
      | inr other ↦ sym (left x a n other) ∙ same n ∙ left y b n (λ e. other (number ∙ e))
    ] in
    ap (λ (o : NumberAndValue). o ∷ a) first ∙ ap (λ (rest : List NumberAndValue). y ∷ rest) (one_order x.0 a b p.1 (subst (λ (n : ℕ). AreInOrder n b) (sym number) q.1) rests)

-- what is in order, and has of each number the outer options and then the inner ones
pub one_merge : (before : ℕ) (outer inner merged : List NumberAndValue) → AreInOrder before outer → AreInOrder before inner → AreInOrder before merged
    → ((number : ℕ) → of_number number merged ≡ of_number number outer ++ of_number number inner) → merged ≡ merge outer inner
one_merge before outer inner merged p q r each =
    one_order before merged (merge outer inner) r (AreInOrder-merge before outer inner p q) (λ n. each n ∙ sym (of_number-merge n before outer inner p q))

-- ---- for the code

module _ {A : Type 0} (shown : A → NumberAndValue) where
  -- what an iterator leaves behind is in order
  pub AreInOrder-taken : (r : Option A) (old new : List NumberAndValue) → MatchOption r ((old ≡ []) × (new ≡ [])) (λ x. old ≡ shown x ∷ new) → AreInOrder 0 old → AreInOrder 0 new
  AreInOrder-taken None old new e p = subst (AreInOrder 0) (sym e.1) tt
  AreInOrder-taken (Some x) old new e p = AreInOrder-rest (shown x) new old e p

  none_left : (b : NumberAndValue) (is : List NumberAndValue) → (b ∷ is) ≡ [] → ⊥
  none_left b is e = cc

  -- the first inner option is taken
  pub inner_step : (o i : Option NumberAndValue) (os is new : List NumberAndValue) (r : Option A) → is_inner_next o i ≡ true → AreInOrder 0 (behind_front i is)
      → MatchOption r ((behind_front i is ≡ []) × (new ≡ [])) (λ x. behind_front i is ≡ shown x ∷ new)
      → MatchOption r ((merge (behind_front o os) (behind_front i is) ≡ []) × (merge (behind_front o os) new ≡ [])) (λ x. merge (behind_front o os) (behind_front i is) ≡ shown x ∷ merge (behind_front o os) new)
  inner_step None i os is new None next p e = (ap (merge []) e.0, ap (merge []) e.1)
  inner_step None i os is new (Some x) next p e = ap (merge []) e ∙ merge-first (shown x) [] new ((subst (AreInOrder 0) e p).1)
  inner_step (Some a) None os is new r next p e = absurd cc
  inner_step (Some a) (Some b) os is new None next p e = absurd (none_left b is e.0)
  inner_step (Some a) (Some b) os is new (Some x) next p e =
      first_inner a b os is (ltb-true b.0 a.0 next) p.1
      ∙ ap (λ (o : NumberAndValue). o ∷ merge (a ∷ os) is) (one_first b (shown x) is new e)
      ∙ ap (λ (rest : List NumberAndValue). shown x ∷ merge (a ∷ os) rest) (one_rest b (shown x) is new e)

  -- the first outer option is taken
  pub outer_step : (o i : Option NumberAndValue) (os is new : List NumberAndValue) (r : Option A) → is_inner_next o i ≡ false → AreInOrder 0 (behind_front i is)
      → MatchOption r ((behind_front o os ≡ []) × (new ≡ [])) (λ x. behind_front o os ≡ shown x ∷ new)
      → MatchOption r ((merge (behind_front o os) (behind_front i is) ≡ []) × (merge new (behind_front i is) ≡ [])) (λ x. merge (behind_front o os) (behind_front i is) ≡ shown x ∷ merge new (behind_front i is))
  outer_step None i os is new r next p e = absurd cc
  outer_step (Some a) i os is new None next p e = absurd (none_left a os e.0)
  outer_step (Some a) None os is new (Some x) next p e = e
  outer_step (Some a) (Some b) os is new (Some x) next p e =
      first_outer a b os is (ltb-false b.0 a.0 next) p.1
      ∙ ap (λ (o : NumberAndValue). o ∷ merge os (b ∷ is)) (one_first a (shown x) os new e)
      ∙ ap (λ (rest : List NumberAndValue). shown x ∷ merge rest (b ∷ is)) (one_rest a (shown x) os new e)

  -- with one option taken, fewer are left
  pub progress : (can : List NumberAndValue → Type 0) → ((left : List NumberAndValue) → can left) → (r : Option A) (old new : List NumberAndValue) → MatchOption r ((old ≡ []) × (new ≡ [])) (λ x. old ≡ shown x ∷ new)
      → MakesProgress can (item_count (λ (left : List NumberAndValue). left)) old r new
  progress can every None old new e = record { on = λ f. tt; keeps = tt; rests = λ f. tt }
  progress can every (Some x) old new e = record { on = λ f. (every new, tt, omega (arith, ap length e)); keeps = every new; rests = λ f. tt }
