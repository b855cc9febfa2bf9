use Rattle.osc_scope.proofs.LookupLemmas.{GoesOn}
use Rattle.osc_scope.proofs.lookup.verdict_by.Given as goal

abbrev pub invariant-loop-entry : goal.invariant-loop-entry
invariant-loop-entry g l = GoesOn l.entries l.entry-iterator l.path l.method l.verdict
