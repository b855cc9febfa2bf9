use Rattle.std.proofs.Common.{take, reverse}
use Rattle.osc_run.specs.{HasFreshDraws}
use Rattle.osc_run.proofs.premise.are_fresh_in_pairs.Given as goal

-- the steps so far drew fresh nonces
abbrev pub invariant-loop-i : goal.invariant-loop-i
invariant-loop-i l = HasFreshDraws (reverse (take l.i l.steps))
