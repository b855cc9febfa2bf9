-- Two addresses are one where their halves are.
use Rattle.std.proofs.Common.{◌≡◌, ◌<◌, ◌+◌, ◌-◌, ◌∙◌, ℕ, arith, ◌&&◌, nat_eq, bytes_eq, List, [], ◌∷◌, ◌++◌, zero, suc, length, take, drop, refl, sym, ap, ap₂, subst}
use Rattle.std.proofs.Math.ListN.{get_or}
use Rattle.std.proofs.lemmas.Bool.Decides.{Decides-and, Decides-eqb, Decides-like, same_from_decides}
use Rattle.std.proofs.lemmas.List.{get_or-drop, length-drop, length-take-le, take-append-drop}
use Rattle.std.proofs.lemmas.Nat.{le_bytes_8}
use Rattle.std.proofs.lemmas.Slice.Eq.{bytes_eq-Decides}
use Rattle.std.specs.Int.{w64, from_le_bytes, to_le_bytes}
use Rattle.osc_model.specs.Peer.{first_half, second_half}

abbrev pub Small : List ℕ → Type 0
Small bytes = (i : ℕ) → get_or bytes i 0 < 256

small_take : (n : ℕ) (bytes : List ℕ) → Small bytes → Small (take n bytes)
small_take zero bytes small i = omega arith
small_take (suc n) [] small i = omega arith
small_take (suc n) (x ∷ bytes) small zero = small 0
small_take (suc n) (x ∷ bytes) small (suc i) = small_take n bytes (λ j. small (suc j)) i

small_drop : (n : ℕ) (bytes : List ℕ) → Small bytes → Small (drop n bytes)
small_drop n bytes small i = subst (λ (byte : ℕ). byte < 256) (sym (get_or-drop n bytes i 0)) (small (n + i))

one_half : (a b : List ℕ) → length a ≡ 8 → length b ≡ 8 → Small a → Small b → from_le_bytes w64 a ≡ from_le_bytes w64 b → a ≡ b
one_half a b long_a long_b small_a small_b same =
    sym (le_bytes_8 a (from_le_bytes w64 a) long_a small_a refl) ∙ ap (to_le_bytes w64) same ∙ le_bytes_8 b (from_le_bytes w64 b) long_b small_b refl

one_address : (a b : List ℕ) → length a ≡ 16 → length b ≡ 16 → Small a → Small b → (first_half a ≡ first_half b) × (second_half a ≡ second_half b) → a ≡ b
one_address a b long_a long_b small_a small_b same =
    sym (take-append-drop 8 a)
    ∙ ap₂ (λ (x y : List ℕ). x ++ y)
    (one_half (take 8 a) (take 8 b) (length-take-le 8 a (omega arith)) (length-take-le 8 b (omega arith)) (small_take 8 a small_a) (small_take 8 b small_b) same.0)
    (one_half (drop 8 a) (drop 8 b) (length-drop 8 a ∙ ap (λ (n : ℕ). n - 8) long_a) (length-drop 8 b ∙ ap (λ (n : ℕ). n - 8) long_b) (small_drop 8 a small_a) (small_drop 8 b small_b) same.1)
    ∙ take-append-drop 8 b

pub halves_tell : (a b : List ℕ) → length a ≡ 16 → length b ≡ 16 → Small a → Small b
    → (nat_eq (first_half a) (first_half b) && nat_eq (second_half a) (second_half b)) ≡ bytes_eq a b
halves_tell a b long_a long_b small_a small_b =
    let both = Decides-and (nat_eq (first_half a) (first_half b)) (nat_eq (second_half a) (second_half b)) (Decides-eqb (first_half a) (first_half b)) (Decides-eqb (second_half a) (second_half b)) in
    same_from_decides (nat_eq (first_half a) (first_half b) && nat_eq (second_half a) (second_half b)) (bytes_eq a b)
    (Decides-like (nat_eq (first_half a) (first_half b) && nat_eq (second_half a) (second_half b))
    (one_address a b long_a long_b small_a small_b)
    (λ same. (ap first_half same, ap second_half same))
    both)
    (bytes_eq-Decides a b)
