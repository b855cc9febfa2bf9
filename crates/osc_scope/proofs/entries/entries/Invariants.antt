use Rattle.std.proofs.Common.{length}
use Rattle.osc_scope.specs.{AreEntriesBefore}
use Rattle.osc_scope.proofs.entries.entries.Given as goal

-- the entries of the items so far
abbrev pub invariant-loop-text : goal.invariant-loop-text
invariant-loop-text l = AreEntriesBefore l.left l.fn.items l.entries

abbrev pub decreases-loop-text : goal.decreases-loop-text
decreases-loop-text l = length l.left
