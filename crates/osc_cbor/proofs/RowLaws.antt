-- Rows of bytes: how often some are among them, and rows that ascend.
use Rattle.std.proofs.Common.{◌≡◌, ℕ, suc, ◌+◌, ◌-◌, ◌<◌, ◌≤◌, true, false, cond, List, [], ◌∷◌, ◌++◌, length, get_or, take, drop, refl, sym, ap, ◌∙◌, arith}
use Rattle.std.specs.Str.{bytes_eq}
use Rattle.std.specs.declared.cmp.Ordering.TheVariants.{Less, Equal}
use Rattle.std.specs.Ordering.{nat_cmp, is_eq}
use Rattle.std.specs.Cmp.Lexicographic.{slice_cmp}
use Rattle.std.specs.List.Sorted.{IsPermutation}
use Rattle.std.proofs.lemmas.Cmp.{nat_list_cmp_total}
use Rattle.std.proofs.lemmas.List.{drop_more, length-drop}
use Rattle.std.proofs.Math.Seq.{take-length}
use Rattle.std.proofs.lemmas.List.Sums.{sum_by-cons, sum_by-append}
use Rattle.std.proofs.lemmas.List.Sorted.{sum_by-IsPermutation, IsPermutation-map}
use Rattle.std.proofs.lemmas.Map.Text.{is_eq-slice_cmp}
use Rattle.std.proofs.lemmas.Slice.Eq.{bytes_eq-Decides}
use Rattle.osc_cbor.specs.Inner.Notes.{times, AreApart, Repeats, Says, piece, pieces}
use Rattle.osc_cbor.specs.declared.keys.Key.{Key}
use Rattle.osc_cbor.specs.declared.keys.KeyOrder.{KeyOrder}
use Rattle.osc_cbor.specs.declared.keys.KeyOrder.TheVariants.{Apart, Repeated, Unordered}

-- ---- how often

pub times-cons : (x y : List ℕ) (ys : List (List ℕ)) → times x (y ∷ ys) ≡ cond (bytes_eq x y) 1 0 + times x ys
times-cons x y ys = sum_by-cons (λ z. cond (bytes_eq x z) 1 0) y ys

pub times-append : (x : List ℕ) (xs ys : List (List ℕ)) → times x (xs ++ ys) ≡ times x xs + times x ys
times-append x xs ys = sum_by-append (λ z. cond (bytes_eq x z) 1 0) xs ys

pub times-here : (x y : List ℕ) (ys : List (List ℕ)) → bytes_eq x y ≡ true → times x (y ∷ ys) ≡ suc (times x ys)
times-here x y ys h = let e = times-cons x y ys ∙ ap (λ b. cond b 1 0 + times x ys) h in omega (arith, e)

pub times-there : (x y : List ℕ) (ys : List (List ℕ)) → bytes_eq x y ≡ false → times x (y ∷ ys) ≡ times x ys
times-there x y ys h = let e = times-cons x y ys ∙ ap (λ b. cond b 1 0 + times x ys) h in omega (arith, e)

pub itself : (x : List ℕ) → bytes_eq x x ≡ true
itself x = (bytes_eq-Decides x x).1 refl

pub row_is : (x y : List ℕ) → bytes_eq x y ≡ true → x ≡ y
row_is x y = (bytes_eq-Decides x y).0

-- ---- rows that ascend

abbrev pub Ascends : List ℕ → List (List ℕ) → Type 0
Ascends x [] = Unit {0}
Ascends x (y ∷ ys) = (slice_cmp nat_cmp x y ≡ Less) × Ascends y ys

less_is_other : (x y : List ℕ) → slice_cmp nat_cmp x y ≡ Less → bytes_eq x y ≡ false
less_is_other x y h = sym (is_eq-slice_cmp x y) ∙ ap is_eq h

none_above : (x y : List ℕ) (ys : List (List ℕ)) → slice_cmp nat_cmp x y ≡ Less → Ascends y ys → times x (y ∷ ys) ≡ 0
none_above x y [] lt a = times-there x y [] (less_is_other x y lt)
none_above x y (z ∷ zs) lt a = times-there x y (z ∷ zs) (less_is_other x y lt) ∙ none_above x z zs (nat_list_cmp_total.trans x y z lt a.0) a.1

none_behind : (x : List ℕ) (ys : List (List ℕ)) → Ascends x ys → times x ys ≡ 0
none_behind x [] a = refl
none_behind x (y ∷ ys) a = none_above x y ys a.0 a.1

pub ascending_apart : (y : List ℕ) (ys : List (List ℕ)) → Ascends y ys → AreApart (y ∷ ys)
ascending_apart y ys a x =
    elim (bytes_eq x y) as (λ b. bytes_eq x y ≡ b → times x (y ∷ ys) ≤ 1) [
      | true ↦ λ h. let none = ap (λ (z : List ℕ). times z ys) (row_is x y h) ∙ none_behind y ys a in omega (arith, times-here x y ys h, none)
      | false ↦ λ h. let rest = rest_apart y ys a x in omega (arith, times-there x y ys h, rest)
    ] refl
  where
    rest_apart : (y : List ℕ) (ys : List (List ℕ)) → Ascends y ys → (x : List ℕ) → times x ys ≤ 1
    rest_apart y [] a x = omega arith
    rest_apart y (z ∷ zs) a x =
        elim (bytes_eq x z) as (λ b. bytes_eq x z ≡ b → times x (z ∷ zs) ≤ 1) [
          | true ↦ λ h. let none = ap (λ (w : List ℕ). times w zs) (row_is x z h) ∙ none_behind z zs a.1 in omega (arith, times-here x z zs h, none)
          | false ↦ λ h. let rest = rest_apart z zs a.1 x in omega (arith, times-there x z zs h, rest)
        ] refl

-- ---- neighbours compared from left to right

pub record Compared (last : List ℕ) (left rows : List (List ℕ)) : Type 0 where
  pub ascends : Ascends last left → AreApart rows
  pub counts : (x : List ℕ) → times x (last ∷ left) ≤ times x rows

pub compared_start : (x : List ℕ) (xs : List (List ℕ)) → Compared x xs (x ∷ xs)
compared_start x xs = record { ascends = ascending_apart x xs; counts = λ y. omega arith }

pub compared_less : (last this : List ℕ) (left rows : List (List ℕ)) → Compared last (this ∷ left) rows → slice_cmp nat_cmp last this ≡ Less → Compared this left rows
compared_less last this left rows c lt = record {
  ascends = λ a. c.ascends (lt, a);
  counts = λ x. let e = times-cons x last (this ∷ left) in omega (arith, c.counts x, e);
}

pub compared_equal : (last this : List ℕ) (left rows : List (List ℕ)) → Compared last (this ∷ left) rows → slice_cmp nat_cmp last this ≡ Equal → Repeats rows
compared_equal last this left rows c eq =
    let same : bytes_eq last this ≡ true = sym (is_eq-slice_cmp last this) ∙ ap is_eq eq in
    (last, omega (arith, c.counts last, times-here last last (this ∷ left) (itself last), times-here last this left same))

pub compared_end : (last : List ℕ) (rows : List (List ℕ)) → Compared last [] rows → AreApart rows
compared_end last rows c = c.ascends tt

-- ---- the order of keys doesn't matter

pub says_sorted : (v : KeyOrder) (spelled : List ℕ) (keys sorted : List Key) → IsPermutation keys sorted → Says v (pieces spelled sorted) → Says v (pieces spelled keys)
says_sorted Apart spelled keys sorted p h = λ x. let e = same_times spelled keys sorted p x in omega (arith, h x, e)
  where
    same_times : (spelled : List ℕ) (keys sorted : List Key) → IsPermutation keys sorted → (x : List ℕ) → times x (pieces spelled sorted) ≡ times x (pieces spelled keys)
    same_times spelled keys sorted p x = sum_by-IsPermutation (λ z. cond (bytes_eq x z) 1 0) (pieces spelled keys) (pieces spelled sorted) (IsPermutation-map (piece spelled) keys sorted p)
says_sorted Repeated spelled keys sorted p h =
    let e : times h.0 (pieces spelled sorted) ≡ times h.0 (pieces spelled keys) = sum_by-IsPermutation (λ z. cond (bytes_eq h.0 z) 1 0) (pieces spelled keys) (pieces spelled sorted) (IsPermutation-map (piece spelled) keys sorted p) in
    (h.0, omega (arith, h.1, e))
says_sorted Unordered spelled keys sorted p h = tt

pub pieces-drop : (spelled : List ℕ) (keys : List Key) (i : ℕ) (d : Key) → i < length keys → pieces spelled (drop i keys) ≡ piece spelled (get_or keys i d) ∷ pieces spelled (drop (i + 1) keys)
pieces-drop spelled keys i d h = rw (drop_more keys i d h)

-- all of what follows an index
pub rest_of : (keys : List Key) (i : ℕ) → take (length keys - i) (drop i keys) ≡ drop i keys
rest_of keys i = ap (λ (n : ℕ). take n (drop i keys)) (sym (length-drop i keys)) ∙ take-length (drop i keys)
