use Rattle.std.proofs.Common.{◌≤◌, length, subst, sym, arith}
use Rattle.osc_message.specs.{AreShort, EndpointState, messages}
use Rattle.osc_message.proofs.Few.{going_few}
use Rattle.osc_message.proofs.Notes.{alive_short}
use Rattle.osc_message.proofs.Sound.{going_out_fits}
use Rattle.osc_message.proofs.endpoint.Endpoint.on_tick.Goals as goal

pub invariant_of-self : goal.invariant_of-self
invariant_of-self g c =
    let holds = c.self.invariant in (
      omega (arith, holds.0, c.tick.ensures.len),
      omega (arith, holds.1, c.tick.ensures.capacity),
      omega (arith, holds.2, c.tick.ensures.dues),
      c.tick.ensures.sound,
      subst AreShort (sym c.expire.ensures) (alive_short c.args.now c.self.inside.seen holds.4),
      omega (arith, holds.5, c.tick.ensures.more),
    )

pub returns-clause-fits : goal.returns-clause-fits
returns-clause-fits g c = going_out_fits c.self.inside.pace c.args.now (messages c.self.inside.sending.items) _ _ c.self.invariant.3.sound c.tick.ensures.out

pub returns-clause-few : goal.returns-clause-few
returns-clause-few g c =
    let P : EndpointState → Type 0 = λ e. length c.tick.result.out ≤ length e.sending in
    subst P c.self.view_is (going_few c.self.inside.pace c.args.now (messages c.self.inside.sending.items) c.tick.result.lost c.tick.result.out c.tick.ensures.out)
