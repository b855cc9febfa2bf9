use Rattle.std.proofs.Common.{◌≡◌, ◌++◌, [], ◌∷◌, ◌&&◌, Bool, true, false, not, List, Option, Some, None, ap, ap₂, append_assoc, nat_eq, refl, sym, ◌∙◌, ℕ}
use Rattle.std.specs.Cmp.Lexicographic.{pointwise}
use Rattle.std.specs.FinMap as map
use Rattle.std.specs.Option.{option_eq}
use Rattle.std.proofs.lemmas.Bool.{and_parts, eqb-true}
use Rattle.std.proofs.lemmas.Bool.Decides.{Decides-eqb}
use Rattle.std.proofs.lemmas.Slice.Eq.{slice_eq-Decides}
use Rattle.osc_model.specs.declared.resource.Resource.{Resource}
use Rattle.osc_store.proofs.whole.are_same.Goals as goal

abbrev Entry : Type 0
Entry = List ℕ × Resource

moved : (all read rest new : List Entry) (x : Entry) → all ≡ read ++ rest → rest ≡ x ∷ new → all ≡ (read ++ x ∷ []) ++ new
moved all read rest new x is next = is ∙ ap (λ xs. read ++ xs) next ∙ sym (append_assoc read (x ∷ []) new)

so : (b : Bool) → false ≡ not b → b ≡ true
so true is = refl
so false is = absurd (cc)

bytes_are : (a b : List ℕ) → pointwise nat_eq a b ≡ true → a ≡ b
bytes_are a b e = (slice_eq-Decides Decides-eqb a b (pointwise nat_eq a b) refl).0 e

format_is : (a b : Option ℕ) → option_eq nat_eq a b ≡ true → a ≡ b
format_is None None e = refl
format_is None (Some b) e = absurd (cc)
format_is (Some a) None e = absurd (cc)
format_is (Some a) (Some b) e = ap (λ (n : ℕ). Some n) (eqb-true a b e)

abbrev made : Option ℕ → List ℕ → Resource
made format payload = record { format = format; payload = payload }

resource_is : (a b : Resource) → (option_eq nat_eq a.format b.format && pointwise nat_eq a.payload b.payload) ≡ true → a ≡ b
resource_is a b e =
    let both = and_parts (option_eq nat_eq a.format b.format) (pointwise nat_eq a.payload b.payload) e in
    ap₂ made (format_is a.format b.format both.0) (bytes_are a.payload b.payload both.1)

pub loop-path-preserved : goal.loop-path-preserved
loop-path-preserved c =
    let it = c.loop-path.invariant in
    let x : Entry = (c.in-Some.path.now, c.in-Some.resource.now) in
    let path = bytes_are c.in-Some.path.now c.in-Some-next.there.now (so _ c.if-ne.ensures) in
    let resource = resource_is c.in-Some.resource.now c.in-Some-next.held.now (so _ (sym c.if-ne-2.false ∙ c.ne-else-ne.ensures)) in
    let same : x ≡ (c.in-Some-next.there.now, c.in-Some-next.held.now) = ap₂ (λ (p : List ℕ) (r : Resource). (p, r)) path resource in
    record {
      read = it.read ++ x ∷ [];
      ones = moved _ it.read c.loop-path.path-iterator c.next.new.self x it.ones c.in-Some.ensures.steps;
      others = moved _ it.read c.loop-path.theirs c.next-in-loop-path.new.self x it.others (c.in-Some-next.ensures.steps ∙ ap (λ (y : Entry). y ∷ c.next-in-loop-path.new.self) (sym same));
    }

pub returns-in-None-next : goal.returns-in-None-next
returns-in-None-next c none =
    let it = c.loop-path.invariant in
    map.same_entries_map _ _ (it.ones ∙ ap (λ xs. it.read ++ xs) (c.in-None.ensures.steps.0 ∙ sym c.in-None-next.ensures.steps.0) ∙ sym it.others)
