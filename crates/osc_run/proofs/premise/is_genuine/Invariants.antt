use Rattle.std.proofs.Common.{take, reverse}
use Rattle.osc_run.specs.{IsGenuine}
use Rattle.osc_run.proofs.premise.is_genuine.Given as goal

-- the steps so far opened what was sealed
abbrev pub invariant-loop-i : goal.invariant-loop-i
invariant-loop-i l = IsGenuine l.minted (reverse (take l.i l.steps))
