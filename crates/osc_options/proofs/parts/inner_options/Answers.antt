use Rattle.osc_options.proofs.MergeLaws.{AreInOrder-options, AreInOrder-filter}
use Rattle.osc_options.proofs.parts.inner_options.Goals as goal

pub invariant_of-result : goal.invariant_of-result
invariant_of-result c = AreInOrder-filter _ 0 _ (AreInOrder-options 0 c.args.options c.requires)
