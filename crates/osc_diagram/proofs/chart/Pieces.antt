-- Pieces of a drawing, one after the other.
use Rattle.std.proofs.Common.{◌≡◌, ◌∙◌, ap, sym, ℕ, ◌+◌, ◌<◌, List, [], ◌∷◌, ◌++◌, append_assoc, add-one, decimal, suc, drop, length, get_or}
use Rattle.std.proofs.Math.Seq.{drop-cons}

-- what is left at an item, and after it
pub drop_item : {A : Type 0} (xs : List A) (i : ℕ) (x : A) → i < length xs → x ≡ get_or xs i x → drop i xs ≡ x ∷ drop (i + 1) xs
drop_item xs i x lt e = rw (add-one, drop-cons xs i x lt) (ap (λ y. y ∷ drop (suc i) xs) (sym e))

-- one piece more after what a count has so far
pub one_more : (upto : ℕ → List ℕ) (piece : ℕ → List ℕ) (i : ℕ) (before now after : List ℕ) → upto (suc i) ≡ upto i ++ piece i
    → now ≡ before ++ upto i → after ≡ now ++ piece i → after ≡ before ++ upto (i + 1)
one_more upto piece i before now after grows e f =
    f ∙ (ap (λ t. t ++ piece i) e ∙ (append_assoc before (upto i) (piece i) ∙ ap (λ t. before ++ t) (sym grows ∙ ap upto (sym (add-one i)))))

-- one piece more of what is left
pub piece_more : (so_far now piece left after whole : List ℕ) → left ≡ piece ++ after → now ≡ so_far ++ piece → so_far ++ left ≡ whole → now ++ after ≡ whole
piece_more so_far now piece left after whole e f g =
    ap (λ t. t ++ after) f ∙ (append_assoc so_far piece after ∙ (ap (λ t. so_far ++ t) (sym e) ∙ g))

-- ---- pieces with numbers

pub two_numbers : (t0 t1 t2 w1 w2 e : List ℕ) (m n m-is n-is : ℕ) → m ≡ m-is → n ≡ n-is → t1 ≡ t0 ++ w1 ++ decimal m → t2 ≡ t1 ++ w2 ++ decimal n
    → t2 ++ e ≡ t0 ++ (w1 ++ decimal m-is ++ w2 ++ decimal n-is ++ e)
two_numbers t0 t1 t2 w1 w2 e m n m-is n-is p q f g = rw (g, f, p, q) (simp append_assoc)

pub four_numbers : (t0 t1 t2 t3 t4 w1 w2 w3 w4 e : List ℕ) (a b c d : ℕ)
    → t1 ≡ t0 ++ w1 ++ decimal a → t2 ≡ t1 ++ w2 ++ decimal b → t3 ≡ t2 ++ w3 ++ decimal c → t4 ≡ t3 ++ w4 ++ decimal d
    → t4 ++ e ≡ t0 ++ (w1 ++ decimal a ++ w2 ++ decimal b ++ w3 ++ decimal c ++ w4 ++ decimal d ++ e)
four_numbers t0 t1 t2 t3 t4 w1 w2 w3 w4 e a b c d f g h k = rw (k, h, g, f) (simp append_assoc)

pub words_and_numbers : (t0 t1 t2 t3 a b b-is w1 w2 : List ℕ) (m n : ℕ) → b ≡ b-is → t1 ≡ t0 ++ a → t2 ≡ t1 ++ b → t3 ≡ t2 ++ w1 ++ decimal m
    → t3 ++ w2 ++ decimal n ≡ t0 ++ (a ++ b-is ++ w1 ++ decimal m ++ w2 ++ decimal n)
words_and_numbers t0 t1 t2 t3 a b b-is w1 w2 m n p f g h = rw (h, g, f, p) (simp append_assoc)

pub piece_and_numbers : (t0 t1 t2 t3 a a-is w1 w2 e : List ℕ) (m n m-is : ℕ) → a ≡ a-is → m ≡ m-is → t1 ≡ t0 ++ a → t2 ≡ t1 ++ w1 ++ decimal m → t3 ≡ t2 ++ w2 ++ decimal n
    → t3 ++ e ≡ t0 ++ (a-is ++ w1 ++ decimal m-is ++ w2 ++ decimal n ++ e)
piece_and_numbers t0 t1 t2 t3 a a-is w1 w2 e m n m-is p q f g h = rw (h, g, f, p, q) (simp append_assoc)
