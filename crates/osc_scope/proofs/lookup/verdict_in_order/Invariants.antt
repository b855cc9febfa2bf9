use Rattle.osc_scope.proofs.InOrder.{GoesOnInOrder}
use Rattle.osc_scope.proofs.lookup.verdict_in_order.Given as goal

abbrev pub invariant-loop-entry : goal.invariant-loop-entry
invariant-loop-entry l = GoesOnInOrder l.entries l.entry-iterator l.path l.method l.said
