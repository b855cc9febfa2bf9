-- Entries in the order of their paths: where a path is among them, and one more.
use Rattle.std.proofs.Common.{◌≡◌, ℕ, zero, suc, ◌+◌, ◌≤◌, ◌<◌, Bool, true, false, List, [], ◌∷◌, ◌++◌, length, length-append, take, drop, get_or, refl, sym, ap, ◌∙◌, subst, arith}
use Rattle.std.specs.Cmp.{IsTotalOrder}
use Rattle.std.specs.List.{All, insert}
use Rattle.std.specs.List.Sorted.{IsPartitionedBy, IsPartitionPoint}
use Rattle.std.specs.Ordering.{is_lt, ordering_reverse}
use Rattle.std.specs.declared.cmp.Ordering.{Ordering}
use Rattle.std.specs.declared.cmp.Ordering.TheVariants.{Less, Equal, Greater}
use Rattle.std.proofs.lemmas.Cmp.{nat_list_cmp_total}
use Rattle.std.proofs.lemmas.List.{get_or-map, length-map, map-append, take-map, drop-map}
use Rattle.std.proofs.lemmas.List.Elements.{All-cons, All-weaker, All-from_recursion, All-from_all_within, recursion_from_All}
use Rattle.std.proofs.lemmas.List.Sorted.{All-permutation, IsPermutation-insert}
use Rattle.osc_model.specs.{path_cmp}
use Rattle.osc_scope.specs.Inner.Kept.{pair_at, pairs_at, IsWithin, is_before, AreInOrder, IsPlaceOf}
use Rattle.osc_scope.specs.declared.kept.EntryPlace.{EntryPlace}
use Rattle.osc_scope.proofs.KeptLemmas.{same_pairs, own_pair}

pub total : IsTotalOrder path_cmp
total = nat_list_cmp_total

less : (o : Ordering) → is_lt o ≡ true → o ≡ Less
less Less e = refl
less Equal e = cc
less Greater e = cc

-- ---- where a path is

-- what is no later than one before the path is before it too
before_too : (top later path : List ℕ) → is_lt (path_cmp later top) ≡ false → is_lt (path_cmp later path) ≡ true → is_lt (path_cmp top path) ≡ true
before_too top later path up below = go (path_cmp later top) refl up
  where
    go : (o : Ordering) → path_cmp later top ≡ o → is_lt o ≡ false → is_lt (path_cmp top path) ≡ true
    go Less e h = cc
    go Equal e h = ap is_lt (sym (total.congr later top path e)) ∙ below
    go Greater e h = ap is_lt (total.trans top later path (total.antisymm top later ∙ ap ordering_reverse e) (less (path_cmp later path) below))

partitioned : (path : List ℕ) (pairs : List (List ℕ × ℕ)) → AreInOrder pairs → IsPartitionedBy (is_before path) pairs
partitioned path [] up = λ i j d le l h. absurd (omega arith)
partitioned path (p ∷ ps) up = go (partitioned path ps up.1)
  where
    go : IsPartitionedBy (is_before path) ps → (i j : ℕ) (d : List ℕ × ℕ) → i ≤ j → j < suc (length ps)
        → is_before path (get_or (p ∷ ps) j d) ≡ true → is_before path (get_or (p ∷ ps) i d) ≡ true
    go rest zero zero d le l h = h
    go rest zero (suc j) d le l h =
        before_too p.0 (get_or ps j d).0 path (All-from_recursion (λ later. is_before p.0 later ≡ false) ps up.0 j d (omega arith)) h
    go rest (suc i) zero d le l h = absurd (omega arith)
    go rest (suc i) (suc j) d le l h = rest i j d (omega arith) (omega arith) h

some_place : EntryPlace
some_place = record { start = 0; end = 0; mask = 0 }

module _ (texts : List ℕ) (places : List EntryPlace) (path : List ℕ) where
  abbrev pub is_before_at : EntryPlace → Bool
  is_before_at place = is_before path (pair_at texts place)

  read : (k : ℕ) (d : List ℕ × ℕ) (e : EntryPlace) → k < length places → get_or (pairs_at texts places) k d ≡ pair_at texts (get_or places k e)
  read k d e l = get_or-map (pair_at texts) places k e d l

  -- the places are parted where their pairs are
  pub places_parted : AreInOrder (pairs_at texts places) → IsPartitionedBy is_before_at places
  places_parted up i j d le l h =
      let pairs = partitioned path (pairs_at texts places) up i j (pair_at texts d) le (omega (arith, l, length-map places (pair_at texts))) in
      ap (is_before path) (sym (read i (pair_at texts d) d (omega arith)))
      ∙ pairs (ap (is_before path) (read j (pair_at texts d) d l) ∙ h)

  pub placed : (i : ℕ) → i ≤ length places → IsPartitionPoint (λ place. is_before_at place ≡ true) (λ place. is_before_at place ≡ false) places i
      → IsPlaceOf path (pairs_at texts places) i
  placed i within point = record {
    within = omega (arith, within, length-map places (pair_at texts));
    parts = (
      λ k d low high. ap (is_before path) (read k d some_place (omega arith)) ∙ point.0 k some_place low high,
      λ k d low high.
          let inside : k < length places = omega (arith, high, length-map places (pair_at texts)) in
          ap (is_before path) (read k d some_place inside) ∙ point.1 k some_place low inside,
    );
  }

-- ---- one more entry

-- the text that was added makes one pair more, at the place that it was given
pub inserted_pair : (texts text all : List ℕ) (places new : List EntryPlace) (i : ℕ) (place : EntryPlace) → All (IsWithin (length texts)) places
    → all ≡ texts ++ text → new ≡ insert places i place → place.start ≡ length texts → place.end ≡ length all
    → pairs_at all new ≡ insert (pairs_at texts places) i (text, place.mask)
inserted_pair texts text all places new i place h added put from to =
    let f = pair_at (texts ++ text) in
    (λ j. pairs_at (added j) (put j))
    ∙ map-append f (take i places) (place ∷ drop i places)
    ∙ (λ j. sym (take-map f i places) j ++ own_pair texts text place from (to ∙ ap length added) j ∷ sym (drop-map f i places) j)
    ∙ (λ j. insert (same_pairs texts text places h j) i (text, place.mask))

pub inserted_within : (texts text all : List ℕ) (places new : List EntryPlace) (i : ℕ) (place : EntryPlace) → All (IsWithin (length texts)) places
    → all ≡ texts ++ text → new ≡ insert places i place → place.start ≡ length texts → place.end ≡ length all → All (IsWithin (length all)) new
inserted_within texts text all places new i place h added put from to =
    let size : length all ≡ length texts + length text = ap length added ∙ length-append texts text in
    let within : IsWithin (length all) place = (omega (arith, size, from, to), omega (arith, to)) in
    let others = All-weaker (IsWithin (length texts)) (IsWithin (length all)) (λ other is. (is.0, omega (arith, size, is.1))) places h in
    subst (All (IsWithin (length all))) (sym put)
    (All-permutation (IsWithin (length all)) (place ∷ places) (insert places i place) (IsPermutation-insert places i place)
    (All-cons (IsWithin (length all)) place places within others))

not_before : (top path : List ℕ) → is_lt (path_cmp top path) ≡ true → is_lt (path_cmp path top) ≡ false
not_before top path e = ap is_lt (total.antisymm path top) ∙ ap (λ o. is_lt (ordering_reverse o)) (less (path_cmp top path) e)

pub stays_in_order : (pair : List ℕ × ℕ) (pairs : List (List ℕ × ℕ)) (i : ℕ) → AreInOrder pairs → IsPlaceOf pair.0 pairs i → AreInOrder (insert pairs i pair)
stays_in_order pair pairs zero up at = (recursion_from_All (λ later. is_before pair.0 later ≡ false) pairs (All-from_all_within (λ later. is_before pair.0 later ≡ false) pairs at.parts.1), up)
stays_in_order pair [] (suc i) up at = absurd (omega (arith, at.within))
stays_in_order pair (p ∷ ps) (suc i) up at =
    let rest : IsPlaceOf pair.0 ps i = record {
      within = omega (arith, at.within);
      parts = (
        λ k d low high. at.parts.0 (suc k) d (omega arith) (omega arith),
        λ k d low high. at.parts.1 (suc k) d (omega arith) (omega arith),
      );
    } in
    let P : List ℕ × ℕ → Type 0 = λ later. is_before p.0 later ≡ false in
    let first : P pair = not_before p.0 pair.0 (at.parts.0 0 p (omega arith) (omega arith)) in (
      recursion_from_All P (insert ps i pair)
          (All-permutation P (pair ∷ ps) (insert ps i pair) (IsPermutation-insert ps i pair) (All-cons P pair ps first (All-from_recursion P ps up.0))),
      stays_in_order pair ps i up.1 rest,
    )
