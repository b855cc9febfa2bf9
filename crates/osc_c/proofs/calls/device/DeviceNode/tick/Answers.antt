-- The outcome of the tick.
use Rattle.std.proofs.Common.{subst, sym}
use Rattle.osc_message.specs.{after_tick}
use Rattle.osc_device.specs.{Carries}
use Rattle.osc_c.proofs.Changing.{reached_changes}
use Rattle.osc_c.proofs.calls.device.DeviceNode.tick.Goals as goal

pub returns : goal.returns
returns g c =
    let old = c.args.self.now.device.server in
    let t = c.on_tick-round.ensures in
    record {
      round = c.on_tick-round.result;
      loses = sym c.lost-lost.ensures;
      ticked = t.ticked;
      ticks = t.begun;
      carries = subst
          (λ draw. Carries g.A.Ciphers.is_sealing (record { server = record old { endpoint = after_tick c.args.now old.endpoint }; own = t.ticked }) c.args.now draw c.on_tick-round.result c.on_tick-round.new.self)
          c.draw.ensures t.carries;
      last = c.ticked.ensures;
      run = t.run;
      entry = t.entry;
      change = reached_changes c.one_path_changes.ensures g.A.Ciphers.is_sealing _ c.on_tick-round.new.self.server _ c.on_tick-round.result.served t.carries.reaches;
    }
