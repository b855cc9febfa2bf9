-- Numbers in their shortest heads, of one byte and of two.
use Rattle.std.proofs.Common.{◌≡◌, ℕ, zero, suc, ◌+◌, ◌*◌, ◌/◌, ◌%◌, ◌^◌, ◌<◌, ◌≤◌, ltb, true, List, [], ◌∷◌, ◌++◌, Ok, refl, ap, subst, ◌∙◌, arith, inl, inr}
use Rattle.std.specs.Int.{w8, to_be_bytes}
use Rattle.std.proofs.lemmas.Bool.{cases_lt, lt-ltb, le-ltb}
use Rattle.osc_cbor.specs.{DataItem, unsigned, negative, head, spelling, number_at, argument_at, content_at, item_at}
use Rattle.osc_cbor.proofs.HeadLaws.{wide8, number_again, argument_24}

-- these bytes are a number, and its spelling is the first of them
abbrev pub IsNumber : ℕ → List ℕ → List ℕ → List ℕ → Type 0
IsNumber left bytes front rest = (d : DataItem) × (item_at (suc left) bytes ≡ Ok (d, rest)) × (spelling d ≡ front)

pub inline_number : (left first : ℕ) (rest : List ℕ) → first < 64 → first % 32 < 24 → IsNumber left (first ∷ rest) (first ∷ []) rest
unfolding item_at argument_at content_at head
inline_number left first rest lt low =
    elim (cases_lt first 32) [
      | inl l ↦
          let major : first / 32 ≡ 0 = omega (arith, l) in
          let bits : first % 32 ≡ first = omega (arith, l) in
          let less : ltb first 24 ≡ true = lt-ltb first 24 (omega (arith, low, bits)) in
          let whole : 32 * 0 + first ≡ first = omega arith in
          (unsigned first, rw (major, bits, less) refl, rw (less, whole) refl)
      | inr g ↦
          let major : first / 32 ≡ 1 = omega (arith, lt, g) in
          let whole : 32 + first % 32 ≡ first = omega (arith, lt, g) in
          let less : ltb (first % 32) 24 ≡ true = lt-ltb (first % 32) 24 low in
          (negative (first % 32), rw (major, less) refl, rw (less, whole) refl)
    ]

-- a byte as an argument
argument_of_a_byte : (argument : ℕ) (rest : List ℕ) → argument < 256 → argument_at 24 (argument ∷ rest) ≡ Ok (argument, rest)
argument_of_a_byte argument rest fits =
    let byte : to_be_bytes w8 argument ≡ argument ∷ [] = ap (λ (x : ℕ). x ∷ []) (omega (arith, fits)) in
    argument_24 (argument ∷ rest) ∙ subst (λ (front : List ℕ). number_at w8 (front ++ rest) ≡ Ok (argument, rest)) byte (number_again w8 (2 ^ 8) wide8 argument rest fits)

head_of_a_byte : (major argument : ℕ) → 24 ≤ argument → argument < 256 → head major argument ≡ (32 * major + 24) ∷ argument ∷ []
unfolding head
head_of_a_byte major argument long fits =
    let byte : to_be_bytes w8 argument ≡ argument ∷ [] = ap (λ (x : ℕ). x ∷ []) (omega (arith, fits)) in
    rw (le-ltb argument 24 long, lt-ltb argument (2 ^ 8) fits, byte) refl

pub byte_number : (left first argument : ℕ) (rest : List ℕ) → first < 64 → first % 32 ≡ 24 → 24 ≤ argument → argument < 256 → IsNumber left (first ∷ argument ∷ rest) (first ∷ argument ∷ []) rest
unfolding item_at content_at
byte_number left first argument rest lt bits long fits =
    elim (cases_lt first 32) [
      | inl l ↦
          let major : first / 32 ≡ 0 = omega (arith, l) in
          let whole : 24 ≡ first = omega (arith, l, bits) in
          (unsigned argument, rw (major, bits, argument_of_a_byte argument rest fits) refl, head_of_a_byte 0 argument long fits ∙ ap (λ (x : ℕ). x ∷ argument ∷ []) whole)
      | inr g ↦
          let major : first / 32 ≡ 1 = omega (arith, lt, g) in
          let whole : 56 ≡ first = omega (arith, lt, g, bits) in
          (negative argument, rw (major, bits, argument_of_a_byte argument rest fits) refl, head_of_a_byte 1 argument long fits ∙ ap (λ (x : ℕ). x ∷ argument ∷ []) whole)
    ]

-- what was passed with `left` levels left
pub number_passed : (left first : ℕ) (rest bytes after old new : List ℕ) → bytes ≡ first ∷ rest → 0 < left
    → ((inner : ℕ) → (d : DataItem) × (item_at (suc inner) (first ∷ rest) ≡ Ok (d, after)) × (new ≡ old ++ spelling d))
    → (d : DataItem) × (item_at left bytes ≡ Ok (d, after)) × (new ≡ old ++ spelling d)
number_passed zero first rest bytes after old new whole some h = absurd (omega (arith, some))
number_passed (suc inner) first rest bytes after old new whole some h = let (d, read, more) = h inner in (d, ap (item_at (suc inner)) whole ∙ read, more)
