-- Lists joined and xored.
use Rattle.std.proofs.Common.{◌≡◌, ℕ, zero, suc, ◌+◌, ◌<◌, ◌≤◌, List, [], ◌∷◌, ◌++◌, length, get_or, set, take, drop, bit_xor, refl, sym, ap, ◌∙◌, arith, add-one}
use Rattle.std.specs.Int.Bits.{xor_self, xor_assoc, xor_zero_r}
use Rattle.std.specs.Simd.Lanes.{zip2}
use Rattle.std.proofs.lemmas.List.{take_at, drop_at}

-- joined lists are equal in their parts where the first parts are equally long
pub parts_of_append : (a b c d : List ℕ) → length a ≡ length b → a ++ c ≡ b ++ d → (a ≡ b) × (c ≡ d)
parts_of_append a b c d long e = (
  sym (take_at a c (length a) refl) ∙ ap (take (length a)) e ∙ take_at b d (length a) (sym long),
  sym (drop_at a c (length a) refl) ∙ ap (drop (length a)) e ∙ drop_at b d (length a) (sym long),
)

-- what was xored twice with the same list
pub xor_xor : (xs ks : List ℕ) → length xs ≤ length ks → zip2 bit_xor (zip2 bit_xor xs ks) ks ≡ xs
xor_xor [] ks h = refl
xor_xor (x ∷ xs) [] h = absurd (omega arith)
xor_xor (x ∷ xs) (k ∷ ks) h =
    ap (λ y. y ∷ zip2 bit_xor (zip2 bit_xor xs ks) ks) (xor_assoc x k k ∙ ap (bit_xor x) (xor_self k) ∙ xor_zero_r x)
    ∙ ap (λ l. x ∷ l) (xor_xor xs ks (omega arith))

pub xor_cancels : (xs ys ks : List ℕ) → length xs ≤ length ks → length ys ≤ length ks → zip2 bit_xor xs ks ≡ zip2 bit_xor ys ks → xs ≡ ys
xor_cancels xs ys ks h h' e = sym (xor_xor xs ks h) ∙ ap (λ l. zip2 bit_xor l ks) e ∙ xor_xor ys ks h'

-- ---- a loop that xors ks into xs, byte by byte: what it reads, its step, and its end

xored_read : (xs ks : List ℕ) (i d : ℕ) → i ≤ length ks → get_or (zip2 bit_xor (take i xs) ks ++ drop i xs) i d ≡ get_or xs i d
xored_read xs ks zero d h = refl
xored_read [] ks (suc i) d h = refl
xored_read (x ∷ xs) [] (suc i) d h = absurd (omega arith)
xored_read (x ∷ xs) (k ∷ ks) (suc i) d h = xored_read xs ks i d (omega arith)

xored_more : (xs ks : List ℕ) (i : ℕ) → i < length xs → i < length ks → set (zip2 bit_xor (take i xs) ks ++ drop i xs) i (bit_xor (get_or xs i 0) (get_or ks i 0)) ≡ zip2 bit_xor (take (suc i) xs) ks ++ drop (suc i) xs
xored_more [] ks i l h = absurd (omega arith)
xored_more (x ∷ xs) [] i l h = absurd (omega arith)
xored_more (x ∷ xs) (k ∷ ks) zero l h = refl
xored_more (x ∷ xs) (k ∷ ks) (suc i) l h = ap (λ l. bit_xor x k ∷ l) (xored_more xs ks i (omega arith) (omega arith))

pub xored_step : (xs ks ys : List ℕ) (i : ℕ) → i < length xs → i < length ks → ys ≡ zip2 bit_xor (take i xs) ks ++ drop i xs → set ys i (bit_xor (get_or ys i 0) (get_or ks i 0)) ≡ zip2 bit_xor (take (i + 1) xs) ks ++ drop (i + 1) xs
xored_step xs ks ys i l h e =
    ap (λ zs. set zs i (bit_xor (get_or zs i 0) (get_or ks i 0))) e
    ∙ ap (λ x. set (zip2 bit_xor (take i xs) ks ++ drop i xs) i (bit_xor x (get_or ks i 0))) (xored_read xs ks i 0 (omega arith))
    ∙ rw add-one (xored_more xs ks i l h)
