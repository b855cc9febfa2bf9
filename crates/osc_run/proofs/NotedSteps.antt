-- Steps that are kept with the oldest first, and what is collected of them with the newest first.
use Rattle.std.proofs.Common.{◌≡◌, ◌<◌, ℕ, ◌+◌, List, [], ◌∷◌, ◌++◌, length, get_or, take, reverse, map, Option, Some, None, option_map, option_to_list, refl, sym, ap, ◌∙◌}
use Rattle.std.proofs.lemmas.List.{reverse-append, map-append}
use Rattle.osc_run.specs.{Noted, collected}
use Rattle.osc_run.proofs.Members.{next_first}

-- ---- one step more

-- with one more at the end
pub newest : (steps : List Noted) (s : Noted) → reverse (steps ++ s ∷ []) ≡ s ∷ reverse steps
newest steps s = reverse-append steps (s ∷ [])

-- ---- what is collected of one step more

-- of values
pub read_more : {A : Type 0} (part : Noted → Option A) (steps : List Noted) (i : ℕ) (s : Noted) → i < length steps → s ≡ get_or steps i s
    → (before after : List A) (more : Option A) → before ≡ collected part (reverse (take i steps)) → more ≡ part s → after ≡ before ++ option_to_list more
    → after ≡ collected part (reverse (take (i + 1) steps))
read_more {A} part steps i s lt is before after more h e grown =
    grown
    ∙ ap (λ (l : List A). l ++ option_to_list more) h
    ∙ ap (λ (o : Option A). collected part (reverse (take i steps)) ++ option_to_list o) e
    ∙ sym (ap (collected part) (next_first steps i s lt is))

-- of values that are lent
pub read_more_lent : {A B : Type 0} (see : B → A) (part : Noted → Option A) (steps : List Noted) (i : ℕ) (s : Noted) → i < length steps → s ≡ get_or steps i s
    → (before after : List B) (more : Option B) → map see before ≡ collected part (reverse (take i steps)) → option_map see more ≡ part s → after ≡ before ++ option_to_list more
    → map see after ≡ collected part (reverse (take (i + 1) steps))
read_more_lent {A} {B} see part steps i s lt is before after more h e grown =
    read_more part steps i s lt is (map see before) (map see after) (option_map see more) h e
    (ap (map see) grown ∙ map-append see before (option_to_list more) ∙ ap (λ (l : List A). map see before ++ l) (one see more))
  where
    one : {A B : Type 0} (see : B → A) (more : Option B) → map see (option_to_list more) ≡ option_to_list (option_map see more)
    one see None = refl
    one see (Some x) = refl
