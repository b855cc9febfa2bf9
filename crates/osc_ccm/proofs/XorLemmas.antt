-- What xor of lists does to their parts.
use Rattle.std.proofs.Common.{◌≡◌, ℕ, zero, suc, ◌+◌, ◌<◌, ◌≤◌, List, [], ◌∷◌, ◌++◌, length, get_or, set, take, drop, bit_xor, refl, sym, ap, ◌∙◌, arith, add-one, ◌↔◌}
use Rattle.std.specs.Int.Bits.{bit_or, xor_self, xor_assoc, xor_zero_l, xor_zero_r}
use Rattle.std.specs.Simd.Lanes.{put_chunk}
use Rattle.std.proofs.lemmas.Simd.{put_chunk_whole}
use Rattle.std.proofs.lemmas.List.{take_all, take_more, take_more_same, same_from_push}
use Rattle.std.proofs.lemmas.Nat.{le_or_l, le_or_r}
use Rattle.osc_ccm.specs.{xor, length-xor}

pub xor-nil : (ys : List ℕ) → xor ys [] ≡ []
xor-nil [] = refl
xor-nil (y ∷ ys) = refl

-- lists of which the first parts are equally long
pub xor-append : (a b c d : List ℕ) → length a ≡ length c → xor (a ++ b) (c ++ d) ≡ xor a c ++ xor b d
xor-append [] b [] d e = refl
xor-append [] b (y ∷ c) d e = absurd (omega arith)
xor-append (x ∷ a) b [] d e = absurd (omega arith)
xor-append (x ∷ a) b (y ∷ c) d e = ap (λ l. bit_xor x y ∷ l) (xor-append a b c d (omega arith))

pub take-xor : (n : ℕ) (xs ys : List ℕ) → take n (xor xs ys) ≡ xor (take n xs) ys
take-xor zero xs ys = refl
take-xor (suc n) [] ys = refl
take-xor (suc n) (x ∷ xs) [] = refl
take-xor (suc n) (x ∷ xs) (y ∷ ys) = ap (λ l. bit_xor x y ∷ l) (take-xor n xs ys)

pub xor-take : (n : ℕ) (xs ys : List ℕ) → length xs ≤ n → xor xs (take n ys) ≡ xor xs ys
xor-take n [] ys h = refl
xor-take zero (x ∷ xs) ys h = absurd (omega arith)
xor-take (suc n) (x ∷ xs) [] h = refl
xor-take (suc n) (x ∷ xs) (y ∷ ys) h = ap (λ l. bit_xor x y ∷ l) (xor-take n xs ys (omega arith))

pub drop-xor : (n : ℕ) (xs ys : List ℕ) → drop n (xor xs ys) ≡ xor (drop n xs) (drop n ys)
drop-xor zero xs ys = refl
drop-xor (suc n) [] ys = refl
drop-xor (suc n) (x ∷ xs) [] = sym (xor-nil (drop n xs))
drop-xor (suc n) (x ∷ xs) (y ∷ ys) = drop-xor n xs ys

-- sixteen lanes xored and stored
pub stored : (xs ks : List ℕ) → length xs ≡ 16 → length ks ≡ 16 → put_chunk 0 xs (xor (take 16 xs) ks) ≡ xor xs ks
stored xs ks long whole =
    ap (λ l. put_chunk 0 xs (xor l ks)) (take_all 16 xs (omega arith))
    ∙ put_chunk_whole xs (xor xs ks) (omega (arith, length-xor xs ks))

-- a loop that xors ks into xs, byte by byte: what it reads, and its step
pub xored_read : (xs ks : List ℕ) (i d : ℕ) → i ≤ length ks → get_or (xor (take i xs) ks ++ drop i xs) i d ≡ get_or xs i d
xored_read xs ks zero d h = refl
xored_read [] ks (suc i) d h = refl
xored_read (x ∷ xs) [] (suc i) d h = absurd (omega arith)
xored_read (x ∷ xs) (k ∷ ks) (suc i) d h = xored_read xs ks i d (omega arith)

pub xored_more : (xs ks : List ℕ) (i : ℕ) → i < length xs → i < length ks → set (xor (take i xs) ks ++ drop i xs) i (bit_xor (get_or xs i 0) (get_or ks i 0)) ≡ xor (take (suc i) xs) ks ++ drop (suc i) xs
xored_more [] ks i l h = absurd (omega arith)
xored_more (x ∷ xs) [] i l h = absurd (omega arith)
xored_more (x ∷ xs) (k ∷ ks) zero l h = refl
xored_more (x ∷ xs) (k ∷ ks) (suc i) l h = ap (λ l. bit_xor x k ∷ l) (xored_more xs ks i (omega arith) (omega arith))

pub xored_step : (xs ks ys : List ℕ) (i : ℕ) → i < length xs → i < length ks → ys ≡ xor (take i xs) ks ++ drop i xs → set ys i (bit_xor (get_or ys i 0) (get_or ks i 0)) ≡ xor (take (i + 1) xs) ks ++ drop (i + 1) xs
xored_step xs ks ys i l h e =
    ap (λ zs. set zs i (bit_xor (get_or zs i 0) (get_or ks i 0))) e
    ∙ ap (λ x. set (xor (take i xs) ks ++ drop i xs) i (bit_xor x (get_or ks i 0))) (xored_read xs ks i 0 (omega arith))
    ∙ rw add-one (xored_more xs ks i l h)

-- ---- a comparison that gathers the differences

same_from_xor : (x y : ℕ) → bit_xor x y ≡ 0 → x ≡ y
same_from_xor x y e =
    sym (xor_assoc x y y ∙ ap (bit_xor x) (xor_self y) ∙ xor_zero_r x) ∙ ap (λ z. bit_xor z y) e ∙ xor_zero_l y

pub same_more : (xs ys : List ℕ) (i d : ℕ) → i < length xs → i < length ys → (d ≡ 0) ↔ (take i xs ≡ take i ys) → (bit_or d (bit_xor (get_or xs i 0) (get_or ys i 0)) ≡ 0) ↔ (take (i + 1) xs ≡ take (i + 1) ys)
same_more xs ys i d l h so_far = (
  λ e.
      let first : d ≡ 0 = omega (arith, le_or_l d (bit_xor (get_or xs i 0) (get_or ys i 0))) in
      let second : bit_xor (get_or xs i 0) (get_or ys i 0) ≡ 0 = omega (arith, le_or_r d (bit_xor (get_or xs i 0) (get_or ys i 0))) in
      take_more_same xs ys i 0 l h (so_far.0 first) (same_from_xor _ _ second),
  λ e.
      let both = same_from_push (take i xs) (take i ys) (get_or xs i 0) (get_or ys i 0) (sym (take_more xs i 0 l) ∙ e ∙ take_more ys i 0 h) in
      ap (λ z. bit_or z (bit_xor (get_or xs i 0) (get_or ys i 0))) (so_far.1 both.0)
      ∙ ap (λ z. bit_or 0 (bit_xor z (get_or ys i 0))) both.1
      ∙ ap (bit_or 0) (xor_self (get_or ys i 0)),
)
