-- The outcome.
use Rattle.std.proofs.Common.{inl}
use Rattle.osc_c.specs.{draw_of}
use Rattle.osc_c.proofs.Changing.{reached_changes}
use Rattle.osc_c.proofs.Refused.{begun_kept, kept, never_too_long}
use Rattle.osc_c.proofs.calls.device.DeviceNode.open_at.Goals as goal

pub returns-in-Ok-clause-fits : goal.returns-in-Ok-clause-fits
returns-in-Ok-clause-fits g c = never_too_long c.in-Ok.round c.keep.result c.keep.ensures.told c.in-Ok.ensures.0.fits

pub returns-in-Ok-clause-opens : goal.returns-in-Ok-clause-opens
returns-in-Ok-clause-opens g c =
    let old = c.args.self.now in
    let new = c.open.new.self in
    let round = c.in-Ok.round in
    let e = c.in-Ok.ensures.0 in
    inl (
      round,
      ((e.posting, e.begins, e.carries), e.made, e.place, e.run, reached_changes c.one_path_changes.ensures g.A.Ciphers.is_sealing _ new.server _ round.served e.carries.reaches),
      c.keep.ensures.told,
      c.keep.ensures.kept,
      kept old new c.keep.new.last round c.keep.result c.keep.ensures.told c.keep.ensures.kept
          (λ number told. begun_kept g.A.Ciphers.is_sealing old.device c.args.now (draw_of c.args.draws.now.own) (draw_of c.args.draws.now.server) round new number told
          e.posting e.begins.exchanges e.carries),
    )
