use Rattle.std.proofs.Common.{◌≤◌, length}
use Rattle.osc_authz.proofs.PlaceLemmas.{AreFrom}
use Rattle.osc_authz.proofs.places.places_of.Given as goal

abbrev pub invariant-loop-left : goal.invariant-loop-left
invariant-loop-left l = record {
  within : l.left ≤ length l.table;
  noted : AreFrom l.left l.places l.table;
}

abbrev pub decreases-loop-left : goal.decreases-loop-left
decreases-loop-left l = l.left
