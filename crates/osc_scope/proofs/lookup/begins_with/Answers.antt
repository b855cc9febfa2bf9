use Rattle.std.proofs.Common.{◌≡◌, ◌∙◌, ◌++◌, sym, None, Some}
use Rattle.std.proofs.lemmas.Bool.Decides.{Decides-eqb}
use Rattle.std.proofs.lemmas.Slice.Eq.{strip_prefix_is}
use Rattle.osc_scope.proofs.BelowLemmas.{decides_below, never_below}
use Rattle.osc_scope.proofs.lookup.begins_with.Goals as goal

pub returns-in-Some : goal.returns-in-Some
returns-in-Some c =
    let path = c.args.path.now in
    let top = c.args.above.now in
    let begun = strip_prefix_is Decides-eqb c.text.result.now top (Some c.in-Some.rest) c.in-Some.ensures.cases in
    let is : path ≡ top ++ c.in-Some.rest.now = sym c.text.ensures.text ∙ begun in
    c.ends_a_segment.ensures
    ∙ decides_below c.paths_are_cut_at_slashes.ensures path top c.in-Some.rest.now c.text.ensures.path c.requires is

pub returns-in-None : goal.returns-in-None
returns-in-None c =
    let path = c.args.path.now in
    let top = c.args.above.now in
    let never = strip_prefix_is Decides-eqb c.text.result.now top None c.in-None.ensures.cases in
    never_below c.paths_are_cut_at_slashes.ensures path top c.text.ensures.path c.requires (λ rest is. never rest (c.text.ensures.text ∙ is))
