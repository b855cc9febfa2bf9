-- At the moment of these milliseconds, with this format.
use Rattle.std.proofs.Common.{inl, subst}
use Rattle.osc_model.specs.declared.request.Request.{Request}
use Rattle.osc_c.specs.{Asks, ComesTo, IsBegun, asked_for}
use Rattle.osc_c.proofs.calls.device.DeviceNode.write.Goals as goal

pub returns-in-Ok : goal.returns-in-Ok
returns-in-Ok g c =
    let own = c.in-Ok.own in
    let is = c.in-Ok.ensures.ok in
    let new = c.ask_at.new.self in
    inl (
      own.now,
      is.0,
      is.1,
      is.2,
      is.3,
      subst (λ (request : Request). ComesTo c.args.self.now c.ask_at.result new (IsBegun g.A.Ciphers.is_sealing g.A.Ciphers.TAG c.args.self.now c.args.draws.now request)
          (λ round. Asks g.A.Ciphers.is_sealing g.A.Ciphers.TAG c.args.self.now (asked_for c.args.draws.now own.now request) round new)) is.4 c.ask_at.ensures,
    )
