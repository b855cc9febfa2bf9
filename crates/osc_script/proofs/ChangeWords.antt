-- Words spell changes exactly where they are read, and they are those.
use Rattle.std.proofs.Common.{◌≡◌, ◌≢◌, ℕ, ◌==◌, cond, List, [], ◌∷◌, ◌++◌, length, get_or, Option, Some, None, Bor, map, drop, refl, sym, ap, subst, ◌∙◌, arith, ◌≤◌, ◌<◌, append_assoc, append-nil, eqb-true}
use Rattle.std.specs.Prelude.{slice_index}
use Rattle.osc_script.specs.declared.line.Change.{Change}
use Rattle.osc_script.specs.declared.line.Line.{Line}
use Rattle.osc_script.specs.declared.line.Line.TheVariants.{Alter}
use Rattle.osc_script.specs.{SpellsNumber, SpellChanges, SpellsPairs}
use Rattle.osc_script.specs.Inner.Reading.{◌>>=◌, number_in, hex_in, change_in, changes_in, some_changes}
use Rattle.osc_script.proofs.Found.{step_found, test_held}
use Rattle.osc_script.proofs.Numbers.{number_found, number_again}
use Rattle.osc_script.proofs.Payloads.{hex_found, hex_again}

change_is : (x y : Change) → Some x ≡ Some y → x ≡ y
change_is x y e = cc

one_byte : (bytes : List ℕ) → length bytes ≡ 1 → bytes ≡ get_or bytes 0 0 ∷ []
one_byte [] h = absurd (omega arith)
one_byte (b ∷ []) h = refl
one_byte (b ∷ c ∷ bytes) h = absurd (omega arith)

change_found : (offset hex : List ℕ) (change : Change) → change_in offset hex ≡ Some change → SpellsNumber offset change.offset × SpellsPairs hex (change.mask ∷ [])
unfolding change_in
change_found offset hex change e =
    let a = step_found (number_in offset) (λ n. hex_in hex >>= λ bytes. cond (length bytes == 1) (Some (record { offset = n; mask = slice_index bytes 0 })) None) change e in
    let b = step_found (hex_in hex) (λ bytes. cond (length bytes == 1) (Some (record { offset = a.0; mask = slice_index bytes 0 })) None) change a.2 in
    let c = test_held (length b.0 == 1) (Some (record { offset = a.0; mask = slice_index b.0 0 })) change b.2 in
    let is : record { offset = a.0; mask = slice_index b.0 0 } ≡ change = change_is (record { offset = a.0; mask = slice_index b.0 0 }) change c.1 in
    let byte : b.0 ≡ change.mask ∷ [] = one_byte b.0 (eqb-true (length b.0) 1 c.0) ∙ ap (λ (c : Change). c.mask ∷ []) is in
    (subst (SpellsNumber offset) (ap (λ (c : Change). c.offset) is) (number_found offset a.0 a.1), subst (SpellsPairs hex) byte (hex_found hex b.0 b.1))

change_again : (offset hex : List ℕ) (change : Change) → SpellsNumber offset change.offset → SpellsPairs hex (change.mask ∷ []) → change_in offset hex ≡ Some change
unfolding change_in
change_again offset hex change n h = rw (number_again offset change.offset n, hex_again hex (change.mask ∷ []) h) refl

changes_is : (x y : List Change) → Some x ≡ Some y → x ≡ y
changes_is x y e = cc

pub changes_found : (words : List (List ℕ)) (changes : List Change) → changes_in words ≡ Some changes → SpellChanges words changes
unfolding changes_in
changes_found [] changes e = subst (SpellChanges []) (changes_is [] changes e) refl
changes_found (offset ∷ []) changes e = absurd cc
changes_found (offset ∷ hex ∷ words) changes e =
    let a = step_found (change_in offset hex) (λ change. changes_in words >>= λ changes. Some (change ∷ changes)) changes e in
    let b = step_found (changes_in words) (λ changes. Some (a.0 ∷ changes)) changes a.2 in
    let c = change_found offset hex a.0 a.1 in
    subst (SpellChanges (offset ∷ hex ∷ words)) (changes_is (a.0 ∷ b.0) changes b.2) (offset, hex, words, refl, c.0, c.1, changes_found words b.0 b.1)

pub changes_again : (words : List (List ℕ)) (changes : List Change) → SpellChanges words changes → changes_in words ≡ Some changes
unfolding changes_in
changes_again words [] s = ap changes_in s
changes_again words (change ∷ changes) s = ap changes_in s.3 ∙ rw (change_again s.0 s.1 change s.4 s.5, changes_again s.2 changes s.6) refl

line_is : (x y : Line) → Some x ≡ Some y → x ≡ y
line_is x y e = cc

-- one change or more
pub some_found : (datagram : ℕ) (changes : List Change) (line : Line) → some_changes datagram changes ≡ Some line → (line ≡ Alter datagram changes) × (changes ≢ [])
some_found datagram [] line e = absurd cc
some_found datagram (change ∷ changes) line e = (sym (line_is (Alter datagram (change ∷ changes)) line e), λ nil. absurd cc)

pub some_again : (datagram : ℕ) (changes : List Change) → changes ≢ [] → some_changes datagram changes ≡ Some (Alter datagram changes)
some_again datagram [] h = absurd (h refl)
some_again datagram (change ∷ changes) h = refl

-- the changes before, and those that are still to come
abbrev pub with_front : List Change → Option (List Change) → Option (List Change)
with_front front found = found >>= λ rest. Some (front ++ rest)

goes_on : (front : List Change) (change : Change) (offset hex : List ℕ) (words : List (List ℕ)) → Some change ≡ change_in offset hex
    → with_front front (changes_in (offset ∷ hex ∷ words)) ≡ with_front (front ++ change ∷ []) (changes_in words)
unfolding changes_in
goes_on front change offset hex words e = rw (← e) (regroup (changes_in words))
  where
    regroup : (found : Option (List Change)) → with_front front (found >>= λ rest. Some (change ∷ rest)) ≡ with_front (front ++ change ∷ []) found
    regroup (Some rest) = ap Some (sym (append_assoc front (change ∷ []) rest))
    regroup None = refl

ends : (front : List Change) (offset hex : List ℕ) (words : List (List ℕ)) → None ≡ change_in offset hex → with_front front (changes_in (offset ∷ hex ∷ words)) ≡ None
unfolding changes_in
ends front offset hex words e = rw (← e) refl

-- the same where the words are lent
pub goes_on_at : (front more : List Change) (rest behind : List (Bor (List ℕ))) (d e : Bor (List ℕ)) (change : Change) (total : Option (List Change)) → 2 ≤ length rest → behind ≡ drop 2 rest
    → Some change ≡ change_in (get_or rest 0 d).now (get_or rest 1 e).now → more ≡ front ++ change ∷ []
    → with_front front (changes_in (map (λ word. word.now) rest)) ≡ total → with_front more (changes_in (map (λ word. word.now) behind)) ≡ total
goes_on_at front more [] behind d e change total le b read m so_far = absurd (omega arith)
goes_on_at front more (x ∷ []) behind d e change total le b read m so_far = absurd (omega arith)
goes_on_at front more (x ∷ y ∷ rest) behind d e change total le b read m so_far =
    rw (b, m) (sym (goes_on front change x.now y.now (map (λ (word : Bor (List ℕ)). word.now) rest) read) ∙ so_far)

pub ends_at : (front : List Change) (rest : List (Bor (List ℕ))) (d e : Bor (List ℕ)) (total : Option (List Change)) → 2 ≤ length rest
    → None ≡ change_in (get_or rest 0 d).now (get_or rest 1 e).now → with_front front (changes_in (map (λ word. word.now) rest)) ≡ total → None ≡ total
ends_at front [] d e total le read so_far = absurd (omega arith)
ends_at front (x ∷ []) d e total le read so_far = absurd (omega arith)
ends_at front (x ∷ y ∷ rest) d e total le read so_far = sym (ends front x.now y.now (map (λ (word : Bor (List ℕ)). word.now) rest) read) ∙ so_far

-- one word that is left over
pub odd_at : (front : List Change) (rest : List (Bor (List ℕ))) (total : Option (List Change)) → length rest < 2 → (rest ≡ [] → ⊥)
    → with_front front (changes_in (map (λ word. word.now) rest)) ≡ total → None ≡ total
unfolding changes_in
odd_at front [] total lt some so_far = absurd (some refl)
odd_at front (x ∷ []) total lt some so_far = so_far
odd_at front (x ∷ y ∷ rest) total lt some so_far = absurd (omega arith)

-- no word is left
pub is_done_at : (front : List Change) (rest : List (Bor (List ℕ))) (total : Option (List Change)) → rest ≡ []
    → with_front front (changes_in (map (λ word. word.now) rest)) ≡ total → Some front ≡ total
unfolding changes_in
is_done_at front [] total none so_far = ap Some (sym (append-nil front)) ∙ so_far
is_done_at front (x ∷ rest) total none so_far = absurd cc
