-- The outcome.
use Rattle.std.proofs.Common.{inl}
use Rattle.osc_c.specs.{asked_for}
use Rattle.osc_c.proofs.Changing.{reached_changes}
use Rattle.osc_c.proofs.Refused.{asked_kept, kept}
use Rattle.osc_c.proofs.calls.device.DeviceNode.ask_at.Goals as goal

pub returns-in-Ok : goal.returns-in-Ok
returns-in-Ok g c =
    let old = c.args.self.now in
    let new = c.ask.new.self in
    let round = c.in-Ok.round in
    let e = c.in-Ok.ensures.0 in
    inl (
      round,
      (e.asks, e.answered, e.run, e.entry, reached_changes c.one_path_changes.ensures g.A.Ciphers.is_sealing _ new.server _ round.served e.asks.carries.reaches),
      c.keep.ensures.told,
      c.keep.ensures.kept,
      kept old new c.keep.new.last round c.keep.result c.keep.ensures.told c.keep.ensures.kept
          (λ number told. asked_kept g.A.Ciphers.is_sealing g.A.Ciphers.TAG old.device
          (asked_for c.args.draws.now c.args.now c.args.request.now) round new number told e.asks),
    )
