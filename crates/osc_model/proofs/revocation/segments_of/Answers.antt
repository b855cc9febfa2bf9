use Rattle.std.proofs.Common.{rules, tests, ◌==◌, drop, subst, sym, ap, ◌∙◌}
use Rattle.std.proofs.lemmas.Iterator.Consumers.{map_from_collect}
use Rattle.std.proofs.lemmas.Iterator.Splits.{YieldsList-from_slice_split}
use Rattle.osc_model.specs.{IsPath}
use Rattle.osc_model.proofs.Pieces.{behind_first, some_path}
use Rattle.osc_model.proofs.revocation.segments_of.Goals as goal

pub slice_bounds-split-count : goal.slice_bounds-split-count
slice_bounds-split-count c = some_path c.text.result.now (subst IsPath (sym c.text.ensures.text) c.text.ensures.path)

pub slice_bounds-split-start : goal.slice_bounds-split-start
slice_bounds-split-start c =
    let some = some_path c.text.result.now (subst IsPath (sym c.text.ensures.text) c.text.ensures.path) in
    search rules

pub returns : goal.returns
returns c =
    map_from_collect _ c.collect.ensures.ran
    (YieldsList-from_slice_split _ (λ b. b == 47) (drop 1 c.args.path.now) (c.split.ensures.rest ∙ behind_first c.text.result.now ∙ ap (drop 1) c.text.ensures.text) c.split.ensures.done c.split.ensures.closure (λ x r q k. search (rules, tests)))
