use Rattle.osc_world.proofs.Apart.{server_alone}
use Rattle.osc_world.proofs.Enrolling.{none_enrolled}
use Rattle.osc_world.proofs.start.Start.new.Goals as goal

pub invariant_of-result : goal.invariant_of-result
invariant_of-result c = rw (c.new.ensures.items, c.new-2.ensures.items, c.new-3.ensures.items) (none_enrolled, server_alone c.args.server_at)
