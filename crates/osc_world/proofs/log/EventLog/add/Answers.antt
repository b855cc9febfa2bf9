use Rattle.std.proofs.Common.{ap, sym, ◌∙◌}
use Rattle.osc_world.specs.{first_waiting}
use Rattle.osc_world.proofs.Waiting.{first_stays}
use Rattle.osc_world.proofs.log.EventLog.add.Goals as goal

pub invariant_of-self : goal.invariant_of-self
invariant_of-self c =
    c.self.invariant ∙ sym (first_stays c.in_ok-at.field-0.at c.self.inside.sent.items c.in_ok-at.field-0.out) ∙ ap first_waiting (sym c.send.ensures)
