use Rattle.std.proofs.Common.{take, reverse}
use Rattle.std.specs.Prelude.{nat_eq}
use Rattle.std.specs.Cmp.Lexicographic.{pointwise}
use Rattle.std.specs.HashSet.{contains}
use Rattle.osc_run.specs.{HasFreshDraws}
use Rattle.osc_run.proofs.Draws.{Holds}
use Rattle.osc_run.proofs.premise.are_fresh_in_a_set.Given as goal

-- the steps so far drew fresh nonces, and the set has them
abbrev pub invariant-loop-step : goal.invariant-loop-step
invariant-loop-step l = record {
  fresh : HasFreshDraws (reverse (take l.step-index l.steps));
  held : Holds (contains (pointwise nat_eq) l.drawn) (reverse (take l.step-index l.steps));
}
