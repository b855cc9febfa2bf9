use Rattle.std.proofs.Common.{◌∙◌, ap₂, sym}
use Rattle.std.proofs.lemmas.List.Sums.{fold_more}
use Rattle.std.specs.FinMap as map
use Rattle.osc_programs.specs.{with_resource}
use Rattle.osc_programs.proofs.running.first_tree.Goals as goal

pub loop-resource-preserved : goal.loop-resource-preserved
loop-resource-preserved c =
    let here = c.loop-resource in
    c.in_ok-add_resource.ensures.added ∙ (ap₂ with_resource here.invariant c.resource-item.is
    ∙ sym (fold_more with_resource map.empty c.args.resources.now here.resource-index _ c.loop-resource-test.true))
