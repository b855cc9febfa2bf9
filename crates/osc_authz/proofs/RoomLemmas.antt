-- As many as there is room for.
use Rattle.std.proofs.Common.{◌≡◌, ℕ, zero, suc, ◌≤◌, ◌<◌, List, [], ◌∷◌, ◌++◌, length, take, refl, sym, ap, ◌∙◌, arith, append_assoc}
use Rattle.osc_authz.specs.declared.agreed_post.AgreedPost.{AgreedPost}

take_none : (n : ℕ) → take n (let none : List AgreedPost = [] in none) ≡ []
take_none zero = refl
take_none (suc n) = refl

pub take_all : (n : ℕ) (xs : List AgreedPost) → length xs ≤ n → xs ≡ take n (xs ++ [])
take_all n [] few = sym (take_none n)
take_all zero (x ∷ xs) few = absurd (omega (arith, few))
take_all (suc n) (x ∷ xs) few = ap (λ (t : List AgreedPost). x ∷ t) (take_all n xs (omega (arith, few)))

take_push : (n : ℕ) (zs : List AgreedPost) (y : AgreedPost) → length (take n zs) < n → take n zs ++ y ∷ [] ≡ take n (zs ++ y ∷ [])
take_push zero zs y short = absurd (omega (arith, short))
take_push (suc n) [] y short = ap (λ (t : List AgreedPost). y ∷ t) (sym (take_none n))
take_push (suc n) (z ∷ zs) y short = ap (λ (t : List AgreedPost). z ∷ t) (take_push n zs y (omega (arith, short)))

take_full : (n : ℕ) (zs : List AgreedPost) (y : AgreedPost) → n ≤ length (take n zs) → take n zs ≡ take n (zs ++ y ∷ [])
take_full zero zs y many = refl
take_full (suc n) [] y many = absurd (omega (arith, many))
take_full (suc n) (z ∷ zs) y many = ap (λ (t : List AgreedPost). z ∷ t) (take_full n zs y (omega (arith, many)))

-- one more fits
pub one_fits : (n : ℕ) (xs ys posts : List AgreedPost) (y : AgreedPost) → posts ≡ take n (xs ++ ys) → length posts < n → posts ++ y ∷ [] ≡ take n (xs ++ (ys ++ y ∷ []))
one_fits n xs ys posts y is short =
    ap (λ (t : List AgreedPost). t ++ y ∷ []) is
    ∙ take_push n (xs ++ ys) y (omega (arith, short, ap length is))
    ∙ ap (take n) (append_assoc xs ys (y ∷ []))

-- no more fits
pub none_fits : (n : ℕ) (xs ys posts : List AgreedPost) (y : AgreedPost) → posts ≡ take n (xs ++ ys) → n ≤ length posts → posts ≡ take n (xs ++ (ys ++ y ∷ []))
none_fits n xs ys posts y is many =
    is
    ∙ take_full n (xs ++ ys) y (omega (arith, many, ap length is))
    ∙ ap (take n) (append_assoc xs ys (y ∷ []))
