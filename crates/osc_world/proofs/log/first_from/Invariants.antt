use Rattle.std.proofs.Common.{◌≤◌}
use Rattle.osc_world.specs.{first_waiting}
use Rattle.osc_world.proofs.log.first_from.Given as goal

abbrev pub invariant-loop-next : goal.invariant-loop-next
invariant-loop-next l = l.next ≤ first_waiting l.sent
