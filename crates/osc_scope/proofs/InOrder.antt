-- A look-up among entries in order.
use Rattle.std.proofs.Common.{◌≡◌, ℕ, zero, suc, Bool, true, false, ◌||◌, if◌then◌else◌, List, [], ◌∷◌, map, drop, Option, refl, sym, ap, ◌∙◌, subst, arith, bytes_eq}
use Rattle.std.specs.FinMap.{IsAntisymmetric}
use Rattle.std.specs.List.{All, AllByRecursion, list_any, insert}
use Rattle.std.specs.Ordering.{is_lt, ordering_reverse}
use Rattle.std.specs.declared.cmp.Ordering.{Ordering}
use Rattle.std.specs.declared.cmp.Ordering.TheVariants.{Less, Equal, Greater}
use Rattle.std.proofs.lemmas.Bool.{both_ways, cond-false, or_parts, false≢true}
use Rattle.std.proofs.lemmas.Cmp.{tied_itself}
use Rattle.std.proofs.lemmas.Slice.Eq.{bytes_eq-Decides}
use Rattle.std.proofs.lemmas.List.Elements.{All-nil, All-cons, All-tail, All-from_all_within, recursion_from_All}
use Rattle.std.proofs.lemmas.List.Sorted.{All-permutation, IsPermutation-insert, IsPermutation-map, list_any-IsPermutation}
use Rattle.osc_model.specs.{IsPath, path_cmp, segments_of, begins_with}
use Rattle.osc_model.specs.declared.code.Method.{Method}
use Rattle.osc_model.specs.declared.code.Method.TheVariants.{Get, Post, Put, Delete}
use Rattle.osc_scope.specs.{IsLawful, bit_of, is_below, entry_with, grants}
use Rattle.osc_scope.specs.Inner.Kept.{is_before, AreInOrder, IsPlaceOf}
use Rattle.osc_scope.specs.declared.verdict.Verdict.{Verdict}
use Rattle.osc_scope.specs.declared.verdict.Verdict.TheVariants.{Granted, NoMethod, NoPath}
use Rattle.osc_scope.proofs.LookupLemmas.{GoesOn, says, reaches, passed, noted}
use Rattle.osc_scope.proofs.OrderLemmas.{total, stays_in_order}

abbrev goes_below : List (List ℕ × ℕ) → Bool
goes_below pairs = list_any (λ pair. is_below pair.1) pairs

-- ---- one entry for its path alone

-- by its text alone
by_text : (pair : List ℕ × ℕ) (path : List ℕ) → is_below pair.1 ≡ false → reaches pair path ≡ bytes_eq path pair.0
by_text pair path alone = cond-false (is_below pair.1) (begins_with (segments_of path) (segments_of pair.0)) (bytes_eq path pair.0) alone

itself : (path : List ℕ) → is_lt (path_cmp path path) ≡ false
itself path = ap is_lt (tied_itself total path)

-- one before the path hasn't it
no_path_before : (pair : List ℕ × ℕ) (path : List ℕ) → is_below pair.1 ≡ false → is_before path pair ≡ true → reaches pair path ≡ false
no_path_before pair path alone before = by_text pair path alone ∙ go (bytes_eq path pair.0) refl
  where
    go : (b : Bool) → bytes_eq path pair.0 ≡ b → b ≡ false
    go true e =
        let same : path ≡ pair.0 = (bytes_eq-Decides path pair.0).0 e in
        absurd (both_ways (is_lt (path_cmp pair.0 path)) (ap (λ p. is_lt (path_cmp pair.0 p)) same ∙ itself pair.0) before)
    go false e = refl

neither : (o : Ordering) → is_lt o ≡ false → is_lt (ordering_reverse o) ≡ false → o ≡ Equal
neither Less e f = cc
neither Equal e f = refl
neither Greater e f = cc

module _ (exact : IsAntisymmetric path_cmp) where
  -- where one from the path on hasn't it, no later one has
  differs : (pair later : List ℕ × ℕ) (path : List ℕ) → is_before path pair ≡ false → bytes_eq path pair.0 ≡ false → is_before pair.0 later ≡ false → bytes_eq path later.0 ≡ false
  differs pair later path from other up = go (bytes_eq path later.0) refl
    where
      go : (b : Bool) → bytes_eq path later.0 ≡ b → b ≡ false
      go true e =
          let same : path ≡ later.0 = (bytes_eq-Decides path later.0).0 e in
          let not_less : is_lt (path_cmp path pair.0) ≡ false = ap (λ p. is_lt (path_cmp p pair.0)) same ∙ up in
          let tied : path_cmp pair.0 path ≡ Equal = neither (path_cmp pair.0 path) from (ap is_lt (sym (total.antisymm path pair.0)) ∙ not_less) in
          absurd (both_ways (bytes_eq path pair.0) other ((bytes_eq-Decides path pair.0).1 (sym (exact pair.0 path tied))))
      go false e = refl

  all_past : (pair : List ℕ × ℕ) (left : List (List ℕ × ℕ)) (path : List ℕ) (method : Option Method) (verdict : Verdict)
      → is_before path pair ≡ false → bytes_eq path pair.0 ≡ false → AllByRecursion (λ later. is_before pair.0 later ≡ false) left
      → goes_below left ≡ false → says left path method verdict ≡ verdict
  all_past pair [] path method verdict from other up alone = refl
  all_past pair (later ∷ left) path method verdict from other up alone =
      let parts = or_parts (is_below later.1) (goes_below left) alone in
      cond-false (reaches later path) (if grants later.1 method then Granted else says left path method NoMethod) (says left path method verdict)
      (by_text later path parts.0 ∙ differs pair later path from other up.0)
      ∙ all_past pair left path method verdict from other up.1 parts.1

-- ---- the pass over those from the path on

-- the entries that are left, in order and none of them before the path, each for its path alone
pub record GoesOnInOrder (pairs left : List (List ℕ × ℕ)) (path : List ℕ) (method : Option Method) (verdict : Verdict) : Type 0 where
  pub same : says left path method verdict ≡ says pairs path method NoPath
  pub lawful : All IsLawful (map entry_with left)
  pub in_order : AreInOrder left
  pub from : AllByRecursion (λ pair. is_before path pair ≡ false) left
  pub alone : goes_below left ≡ false

pub goes_on : (pairs left : List (List ℕ × ℕ)) (path : List ℕ) (method : Option Method) (verdict : Verdict) → GoesOnInOrder pairs left path method verdict → GoesOn pairs left path method verdict
goes_on pairs left path method verdict on = record { same = on.same; lawful = on.lawful; below = λ e. absurd (false≢true (sym on.alone ∙ e)) }

-- those before the path say nothing of it
pub starts : (pairs : List (List ℕ × ℕ)) (i : ℕ) (path : List ℕ) (method : Option Method) → All IsLawful (map entry_with pairs) → AreInOrder pairs
    → goes_below pairs ≡ false → IsPlaceOf path pairs i → GoesOnInOrder pairs (drop i pairs) path method NoPath
starts pairs zero path method lawful up alone at =
    record {
      same = refl;
      lawful = lawful;
      in_order = up;
      from = recursion_from_All (λ pair. is_before path pair ≡ false) pairs (All-from_all_within (λ pair. is_before path pair ≡ false) pairs at.parts.1);
      alone = alone;
    }
starts [] (suc i) path method lawful up alone at = absurd (omega (arith, at.within))
starts (p ∷ ps) (suc i) path method lawful up alone at =
    let parts = or_parts (is_below p.1) (goes_below ps) alone in
    let rest : IsPlaceOf path ps i = record {
      within = omega (arith, at.within);
      parts = (
        λ k d low high. at.parts.0 (suc k) d (omega arith) (omega arith),
        λ k d low high. at.parts.1 (suc k) d (omega arith) (omega arith),
      );
    } in
    let more = starts ps i path method (All-tail IsLawful (entry_with p) (map entry_with ps) lawful) up.1 parts.1 rest in
    record {
      same = more.same ∙ sym (cond-false (reaches p path) (if grants p.1 method then Granted else says ps path method NoMethod) (says ps path method NoPath)
          (no_path_before p path parts.0 (at.parts.0 0 p (omega arith) (omega arith))));
      lawful = more.lawful;
      in_order = more.in_order;
      from = more.from;
      alone = more.alone;
    }

module _
    (pairs left : List (List ℕ × ℕ)) (path : List ℕ) (method : Option Method) (verdict : Verdict) (pair : List ℕ × ℕ)
    (on : GoesOnInOrder pairs (pair ∷ left) path method verdict)
  where
    pub alone_here : is_below pair.1 ≡ false
    alone_here = (or_parts (is_below pair.1) (goes_below left) on.alone).0

    pub noted_in_order : reaches pair path ≡ true → grants pair.1 method ≡ false → GoesOnInOrder pairs left path method NoMethod
    noted_in_order at no_method =
        let next = noted pairs left path method verdict pair (goes_on pairs (pair ∷ left) path method verdict on) at no_method in
        record { same = next.same; lawful = next.lawful; in_order = on.in_order.1; from = on.from.1; alone = (or_parts (is_below pair.1) (goes_below left) on.alone).1 }

    -- past the first that has another path
    pub ends : IsAntisymmetric path_cmp → reaches pair path ≡ false → GoesOn pairs [] path method verdict
    ends exact no_path =
        let next = passed pairs left path method verdict pair (goes_on pairs (pair ∷ left) path method verdict on) no_path in
        let others = all_past exact pair left path method verdict on.from.0 (sym (by_text pair path alone_here) ∙ no_path) on.in_order.0 (or_parts (is_below pair.1) (goes_below left) on.alone).1 in
        record { same = sym others ∙ next.same; lawful = All-nil IsLawful; below = λ e. cc }

-- ---- one entry more

lawful_one : (path : List ℕ) (m : Method) → IsPath path → IsLawful (entry_with (path, bit_of m))
lawful_one path Get is = record { is_path = is; some = omega arith; known = omega arith }
lawful_one path Post is = record { is_path = is; some = omega arith; known = omega arith }
lawful_one path Put is = record { is_path = is; some = omega arith; known = omega arith }
lawful_one path Delete is = record { is_path = is; some = omega arith; known = omega arith }

not_below : (m : Method) → is_below (bit_of m) ≡ false
not_below Get = refl
not_below Post = refl
not_below Put = refl
not_below Delete = refl

-- what a scope keeps of its entries
abbrev AreKept : List (List ℕ × ℕ) → Bool → Bool → Type 0
AreKept pairs below in_order = All IsLawful (map entry_with pairs) × (below ≡ goes_below pairs) × (in_order ≡ true → (below ≡ false) × AreInOrder pairs)

pub kept_with : (pairs new : List (List ℕ × ℕ)) (i : ℕ) (path : List ℕ) (m : Method) (below in_order : Bool) → AreKept pairs below in_order → IsPath path
    → (in_order ≡ true → IsPlaceOf path pairs i) → new ≡ insert pairs i (path, bit_of m) → AreKept new below in_order
kept_with pairs new i path m below in_order kept is at put = subst (λ (all : List (List ℕ × ℕ)). AreKept all below in_order) (sym put) (
  All-permutation IsLawful (map entry_with (pair ∷ pairs)) (map entry_with (insert pairs i pair))
      (IsPermutation-map entry_with (pair ∷ pairs) (insert pairs i pair) (IsPermutation-insert pairs i pair))
      (All-cons IsLawful (entry_with pair) (map entry_with pairs) (lawful_one path m is) kept.0),
  kept.1 ∙ ap (λ b. b || goes_below pairs) (sym (not_below m)) ∙ list_any-IsPermutation (λ p. is_below p.1) (pair ∷ pairs) (insert pairs i pair) (IsPermutation-insert pairs i pair),
  λ e. ((kept.2 e).0, stays_in_order pair pairs i (kept.2 e).1 (at e)),
)
  where
    pair : List ℕ × ℕ
    pair = (path, bit_of m)
