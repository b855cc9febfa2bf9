use Rattle.std.proofs.lemmas.Result.{IfErr-weaker, on_ok_weaker}
use Rattle.osc_lab.specs.Inner.Telling.{live, network}
use Rattle.osc_lab.proofs.Labs.{prints_by, stops_at_end}
use Rattle.osc_lab.proofs.run.run.Goals as goal

pub returns-clause-stops : goal.returns-clause-stops
returns-clause-stops g c =
    IfErr-weaker c.tell_end.result _ _
    (λ ended untold. stops_at_end (network g.P.Port.received g.P.Port.sent c.args.cast.addresses.now) ended c.args.turns c.args.lines.now _ _ _ _ _ c.in_ok-run_lines.ensures.tells untold)
    c.tell_end.ensures.untold

pub returns-clause-prints : goal.returns-clause-prints
returns-clause-prints g c =
    on_ok_weaker c.tell_end.result
    (λ ends. prints_by (network g.P.Port.received g.P.Port.sent c.args.cast.addresses.now) c.args.turns c.args.lines.now (live c.args.nodes.now c.args.means.now)
    (live c.run_lines.new.nodes c.run_lines.new.means) _ _ _ c.in_ok-run_lines.ensures.tells ends)
    c.tell_end.ensures.told
