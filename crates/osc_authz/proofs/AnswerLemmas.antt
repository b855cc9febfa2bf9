-- The payload of an answer, byte by byte.
use Rattle.std.proofs.Common.{◌≡◌, ℕ, List, [], ◌∷◌, length, slice_index_or, refl, sym, ap, ◌∙◌, arith}
use Rattle.osc_cbor.specs.{head, spelling}
use Rattle.osc_authz.specs.{answer_item}

abbrev eight_of : List ℕ → List ℕ
eight_of xs =
    slice_index_or xs 0 0 ∷ slice_index_or xs 1 0 ∷ slice_index_or xs 2 0 ∷ slice_index_or xs 3 0 ∷
    slice_index_or xs 4 0 ∷ slice_index_or xs 5 0 ∷ slice_index_or xs 6 0 ∷ slice_index_or xs 7 0 ∷ []

eight_bytes : (xs : List ℕ) → length xs ≡ 8 → xs ≡ eight_of xs
eight_bytes (a ∷ b ∷ c ∷ d ∷ e ∷ f ∷ g ∷ h ∷ []) size = refl
eight_bytes _ size = absurd (omega arith)

bytes_of : (a b c d e f g h id : ℕ)
    → spelling (answer_item (a ∷ b ∷ c ∷ d ∷ e ∷ f ∷ g ∷ h ∷ []) (id ∷ []))
    ≡ 162 ∷ 24 ∷ 42 ∷ 72 ∷ a ∷ b ∷ c ∷ d ∷ e ∷ f ∷ g ∷ h ∷ 24 ∷ 44 ∷ 65 ∷ id ∷ []
unfolding head
bytes_of a b c d e f g h id = refl

pub answer_bytes : (nonce : List ℕ) (id : ℕ) → length nonce ≡ 8
    → 162 ∷ 24 ∷ 42 ∷ 72 ∷ slice_index_or nonce 0 0 ∷ slice_index_or nonce 1 0 ∷ slice_index_or nonce 2 0 ∷ slice_index_or nonce 3 0 ∷
    slice_index_or nonce 4 0 ∷ slice_index_or nonce 5 0 ∷ slice_index_or nonce 6 0 ∷ slice_index_or nonce 7 0 ∷ 24 ∷ 44 ∷ 65 ∷ id ∷ []
    ≡ spelling (answer_item nonce (id ∷ []))
answer_bytes nonce id size =
    sym (ap (λ bytes. spelling (answer_item bytes (id ∷ []))) (eight_bytes nonce size) ∙ bytes_of _ _ _ _ _ _ _ _ id)
