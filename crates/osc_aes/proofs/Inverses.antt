-- Each byte has one inverse.
use Rattle.std.proofs.Common.{◌≡◌, ℕ, zero, suc, ◌-◌, ◌<◌, ◌∙◌, ◌==◌, Bool, true, List, [], ◌∷◌, ◌++◌, length, map, take, drop, filter, get_or, sym, refl, ap, subst, arith, All, Contains, drop-cons}
use Rattle.std.proofs.lemmas.Bool.{eqb-true, eq-eqb}
use Rattle.std.proofs.lemmas.List.{take-append-drop}
use Rattle.std.proofs.lemmas.List.Elements.{Contains-append_right, Contains-get_or, filter-append, filter_passes, All-head}
use Rattle.std.proofs.lemmas.List.FromFn.{get_or-map-range_with_len, get_or-range_with_len, length-range_with_len}
use Rattle.std.specs.List.{range_with_len}
use Rattle.osc_aes.specs.{times_x, product, inverse, IsInverse}

-- the bytes whose product with b is 1
abbrev inverses : ℕ → List ℕ
inverses b = filter (λ y. product b y == 1) (range_with_len 0 256)

-- computed: one for each byte but 0
one_each : map inverses (range_with_len 1 255) ≡ map (λ b. inverse b ∷ []) (range_with_len 1 255)
unfolding times_x inverse
one_each = refl

only_one : (b : ℕ) → 0 < b → b < 256 → inverses b ≡ inverse b ∷ []
only_one b low high =
    sym (get_or-map-range_with_len inverses 1 255 (b - 1) b [] (omega arith) (omega arith))
    ∙ ap (λ xs. get_or xs (b - 1) []) one_each
    ∙ get_or-map-range_with_len (λ a. inverse a ∷ []) 1 255 (b - 1) b [] (omega arith) (omega arith)

none_of_zero : inverse 0 ≡ 0
unfolding times_x inverse
none_of_zero = refl

-- an element that passes a test stays
kept_head : (p : ℕ → Bool) (x : ℕ) (xs : List ℕ) → p x ≡ true → filter p (x ∷ xs) ≡ x ∷ filter p xs
kept_head p x xs t = rw t refl

kept : (p : ℕ → Bool) (xs : List ℕ) (i : ℕ) → i < length xs → p (get_or xs i 0) ≡ true → Contains (filter p xs) (get_or xs i 0)
kept p xs i h t =
    let x : ℕ = get_or xs i 0 in
    let split : filter p xs ≡ filter p (take i xs) ++ (x ∷ filter p (drop (suc i) xs)) =
    ap (filter p) (sym (take-append-drop i xs)) ∙ filter-append p (take i xs) (drop i xs)
    ∙ ap (λ ys. filter p (take i xs) ++ ys) (ap (filter p) (drop-cons xs i 0 h) ∙ kept_head p x (drop (suc i) xs) t) in
    subst (λ ys. Contains ys x) (sym split)
    (Contains-append_right (filter p (take i xs)) (x ∷ filter p (drop (suc i) xs)) x
    (Contains-get_or (x ∷ filter p (drop (suc i) xs)) 0 0 (omega arith)))

found : (b y : ℕ) → y < 256 → product b y ≡ 1 → Contains (inverses b) y
found b y h e =
    let at : get_or (range_with_len 0 256) y 0 ≡ y = get_or-range_with_len 0 256 y 0 h ∙ omega arith in
    subst (Contains (inverses b)) at
    (kept (λ z. product b z == 1) (range_with_len 0 256) y (rw length-range_with_len h) (eq-eqb _ _ (ap (product b) at ∙ e)))

the_one : (x y : ℕ) → Contains (x ∷ []) y → y ≡ x
the_one x y (zero, h, e) = sym e
the_one x y (suc k, h, e) = absurd (omega arith)

pub unique : (b y : ℕ) → b < 256 → y < 256 → IsInverse b y → y ≡ inverse b
unique zero y hb hy is = is.0 refl ∙ sym none_of_zero
unique (suc a) y hb hy is =
    the_one (inverse (suc a)) y (subst (λ xs. Contains xs y) (only_one (suc a) (omega arith) hb) (found (suc a) y hy (is.1 (λ e. absurd (cc)))))

product_is_one : (b : ℕ) → 0 < b → b < 256 → product b (inverse b) ≡ 1
product_is_one b low high =
    eqb-true _ _ (All-head (λ y. (product b y == 1) ≡ true) (inverse b) []
    (subst (All (λ y. (product b y == 1) ≡ true)) (only_one b low high) (filter_passes (λ y. product b y == 1) (range_with_len 0 256))))

pub inverse_is : (b : ℕ) → b < 256 → IsInverse b (inverse b)
inverse_is zero h = (λ e. none_of_zero, λ n. absurd (n refl))
inverse_is (suc a) h = (λ e. absurd (cc), λ n. product_is_one (suc a) (omega arith) h)
