-- At the moment of these milliseconds, at this path.
use Rattle.std.proofs.Common.{◌≡◌, [], None, inl, rules, subst}
use Rattle.osc_model.specs.declared.code.Method.TheVariants.{Delete}
use Rattle.osc_model.specs.declared.request.Request.{Request}
use Rattle.osc_device.specs.{own_request}
use Rattle.osc_c.specs.{Asks, ComesTo, IsBegun, asked_for}
use Rattle.osc_c.proofs.calls.device.DeviceNode.remove.Goals as goal

pub returns-in-Ok-path : goal.returns-in-Ok-path
returns-in-Ok-path g c =
    let is : c.own_request-request.result ≡ own_request Delete c.args.path.now None [] = search rules in
    inl (
      c.in-Ok.now,
      (c.in-Ok.ensures.fits, c.in-Ok-path.ensures.ok.1),
      c.in-Ok.ensures.ok,
      subst (λ (request : Request). ComesTo c.args.self.now c.ask_at.result c.ask_at.new.self (IsBegun g.A.Ciphers.is_sealing g.A.Ciphers.TAG c.args.self.now c.args.draws.now request)
          (λ round. Asks g.A.Ciphers.is_sealing g.A.Ciphers.TAG c.args.self.now (asked_for c.args.draws.now c.in-Ok.now request) round c.ask_at.new.self))
          is
          c.ask_at.ensures,
    )
