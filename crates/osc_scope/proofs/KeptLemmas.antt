-- Entries as they are kept: what is added to their texts leaves those that are there.
use Rattle.std.proofs.Common.{◌≡◌, ℕ, ◌-◌, ◌≤◌, List, [], ◌∷◌, ◌++◌, length, length-append, length-drop, take, take_all, drop, refl, ap, ◌∙◌, arith, Result, Ok, Err}
use Rattle.std.specs.List.{All}
use Rattle.std.specs.Result.{OnErr}
use Rattle.std.proofs.Math.Seq.{drop-append_seam}
use Rattle.std.proofs.lemmas.List.{take-append-le, drop-append-le, map-append}
use Rattle.std.proofs.lemmas.List.Elements.{All-head, All-tail}
use Rattle.osc_scope.specs.Inner.Kept.{pair_at, pairs_at, IsWithin}
use Rattle.osc_scope.specs.declared.kept.EntryPlace.{EntryPlace}

same_pair : (texts more : List ℕ) (place : EntryPlace) → IsWithin (length texts) place → pair_at (texts ++ more) place ≡ pair_at texts place
same_pair texts more place within =
    let size = place.end - place.start in
    let long : size ≤ length (drop place.start texts) = omega (arith, within.0, within.1, length-drop place.start texts) in
    let text : take size (drop place.start (texts ++ more)) ≡ take size (drop place.start texts) =
    ap (take size) (drop-append-le place.start texts more (omega (arith, within.0, within.1)))
    ∙ take-append-le size (drop place.start texts) more long in
    ap (λ cut. (cut, place.mask)) text

-- with more texts after them, the pairs stay
pub same_pairs : (texts more : List ℕ) (places : List EntryPlace) → All (IsWithin (length texts)) places → pairs_at (texts ++ more) places ≡ pairs_at texts places
same_pairs texts more [] h = refl
same_pairs texts more (place ∷ places) h = λ i.
    same_pair texts more place (All-head (IsWithin (length texts)) place places h) i
    ∷ same_pairs texts more places (All-tail (IsWithin (length texts)) place places h) i

pub own_pair : (texts text : List ℕ) (place : EntryPlace) → place.start ≡ length texts → place.end ≡ length (texts ++ text)
    → pair_at (texts ++ text) place ≡ (text, place.mask)
own_pair texts text place from to =
    let size : length text ≤ place.end - place.start = omega (arith, from, to, length-append texts text) in
    let cut : drop place.start (texts ++ text) ≡ text = ap (λ n. drop n (texts ++ text)) from ∙ drop-append_seam texts text in
    ap (λ t. (t, place.mask)) (ap (take (place.end - place.start)) cut ∙ take_all (place.end - place.start) text size)

-- the text that was added makes one pair more
pub one_more_pair : (texts text all : List ℕ) (places new : List EntryPlace) (place : EntryPlace) → All (IsWithin (length texts)) places
    → all ≡ texts ++ text → new ≡ places ++ place ∷ [] → place.start ≡ length texts → place.end ≡ length all
    → pairs_at all new ≡ pairs_at texts places ++ (text, place.mask) ∷ []
one_more_pair texts text all places new place h added pushed from to =
    (λ i. pairs_at (added i) (pushed i))
    ∙ map-append (pair_at (texts ++ text)) places (place ∷ [])
    ∙ (λ i. same_pairs texts text places h i ++ own_pair texts text place from (to ∙ ap length added) i ∷ [])

pub on_err : {T E P : Type 0} (r : Result T E) → P → OnErr r P
on_err (Ok x) p = tt
on_err (Err e) p = p
