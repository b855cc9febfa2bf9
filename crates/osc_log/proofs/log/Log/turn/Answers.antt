use Rattle.std.proofs.Common.{subst, sym}
use Rattle.osc_log.specs.Log.{AreLines}
use Rattle.osc_log.proofs.Telling.{tells_lines, tells_untold}
use Rattle.osc_log.proofs.log.Log.turn.Goals as goal

pub returns-in-Ok : goal.returns-in-Ok
returns-in-Ok g c =
    let old = g.Self.Log.told c.args.self.now in
    let turn = c.args.turn.now in
    let held = g.N.TellsHeld.held c.args.node.now in
    tells_lines old _ turn held c.deref.result.now (subst (AreLines old.form old.seen turn held) (sym c.deref.ensures.value) c.in-Ok.ensures) c.tell.ensures

pub returns-in-Err : goal.returns-in-Err
returns-in-Err g c = tells_untold (g.Self.Log.told c.args.self.now) _ c.args.turn.now (g.N.TellsHeld.held c.args.node.now) c.tell-in-Err.ensures
