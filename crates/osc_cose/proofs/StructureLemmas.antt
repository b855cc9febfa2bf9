-- The associated data of the cipher, part by part.
use Rattle.std.proofs.Common.{◌≡◌, ℕ, ◌+◌, List, [], ◌∷◌, ◌++◌, length, refl, arith}
use Rattle.std.proofs.lemmas.List.{append-nil, append_assoc, length-append}
use Rattle.osc_cbor.specs.{head}
use Rattle.osc_cose.specs.{enc_structure}

-- the head of an array of three items, and the text Encrypt0
abbrev pub context : List ℕ
context = 131 ∷ 104 ∷ 69 ∷ 110 ∷ 99 ∷ 114 ∷ 121 ∷ 112 ∷ 116 ∷ 48 ∷ []

abbrev pub parts : List ℕ → List ℕ → List ℕ
parts protected external_aad =
    context ++ (head 2 (length protected) ++ protected ++ (head 2 (length external_aad) ++ external_aad))

array_head : head 4 3 ≡ 131 ∷ []
unfolding head
array_head = refl

text_head : head 3 8 ≡ 104 ∷ []
unfolding head
text_head = refl

pub enc_structure_is : (protected external_aad : List ℕ) → enc_structure protected external_aad ≡ parts protected external_aad
unfolding enc_structure
enc_structure_is protected external_aad =
    rw (array_head, text_head, append-nil (head 2 (length external_aad) ++ external_aad)) refl

pub enc_structure_length : (protected external_aad : List ℕ)
    → length (enc_structure protected external_aad) ≡ 10 + length (head 2 (length protected)) + length (head 2 (length external_aad)) + (length protected + length external_aad)
enc_structure_length protected external_aad =
    rw (enc_structure_is protected external_aad) (simp length-append (omega arith))

pub appended_parts : (old p q r s : List ℕ) → old ++ context ++ p ++ q ++ r ++ s ≡ old ++ (context ++ (p ++ q ++ (r ++ s)))
appended_parts old p q r s = simp append_assoc
