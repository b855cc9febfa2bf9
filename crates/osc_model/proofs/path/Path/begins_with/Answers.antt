use Rattle.std.proofs.Common.{◌≡◌, ◌∙◌, ◌++◌, ap, sym, None, Some}
use Rattle.std.proofs.lemmas.Bool.Decides.{Decides-eqb}
use Rattle.std.proofs.lemmas.Slice.Eq.{strip_prefix_is}
use Rattle.osc_model.specs.{segments_of, begins_with}
use Rattle.osc_model.proofs.Below.{decides_below, never_below}
use Rattle.osc_model.proofs.path.Path.begins_with.Goals as goal

pub returns-in-Some : goal.returns-in-Some
returns-in-Some c =
    let text = c.self.inside.text.items in
    let top = c.above.inside.text.items in
    let begun = strip_prefix_is Decides-eqb c.deref.result.now c.as_slice.result.now (Some c.in-Some.rest) c.in-Some.ensures.cases in
    let is : text ≡ top ++ c.in-Some.rest.now = sym c.deref.ensures.value ∙ begun ∙ ap (λ front. front ++ c.in-Some.rest.now) c.as_slice.ensures.value in
    c.ends_a_segment.ensures
    ∙ decides_below text top c.in-Some.rest.now c.self.invariant c.above.invariant is
    ∙ (λ i. begins_with (segments_of (c.self.view_is i)) (segments_of (c.above.view_is i)))

pub returns-in-None : goal.returns-in-None
returns-in-None c =
    let text = c.self.inside.text.items in
    let top = c.above.inside.text.items in
    let never = strip_prefix_is Decides-eqb c.deref.result.now c.as_slice.result.now None c.in-None.ensures.cases in
    never_below text top c.self.invariant c.above.invariant
    (λ rest is. never rest (c.deref.ensures.value ∙ is ∙ ap (λ front. front ++ rest) (sym c.as_slice.ensures.value)))
    ∙ (λ i. begins_with (segments_of (c.self.view_is i)) (segments_of (c.above.view_is i)))
