use Rattle.osc_options.proofs.MergeLaws.{AreInOrder-taken}
use Rattle.osc_options.proofs.parts.InnerOptionsIterator.next.Goals as goal

pub invariant_of-self : goal.invariant_of-self
invariant_of-self c = AreInOrder-taken (λ option. (option.0, option.1.now)) c.take_inner.result _ _ c.take_inner.ensures c.self.invariant
