use Rattle.std.proofs.Common.{drop, reverse}
use Rattle.osc_run.specs.{IsVouched}
use Rattle.osc_run.proofs.premise.is_vouched.Given as goal

-- none of the steps from there on sealed it
abbrev pub invariant-loop-i : goal.invariant-loop-i
invariant-loop-i l = IsVouched (reverse (drop l.i l.earlier)) l.opening → ⊥
