use Rattle.std.proofs.Common.{[]}
use Rattle.osc_lab.specs.{no_line}
use Rattle.osc_lab.specs.Inner.Telling.{network}
use Rattle.osc_lab.proofs.Appended.{appends_none}
use Rattle.osc_lab.proofs.Labs.{all_lines, at_exit, one_more_line, stops_in}
use Rattle.osc_lab.proofs.run.run_lines.Goals as goal

pub loop-line-init : goal.loop-line-init
loop-line-init g c = ([], no_line, appends_none _)

pub returns-in_err-run_line-clause-stops : goal.returns-in_err-run_line-clause-stops
returns-in_err-run_line-clause-stops g c =
    at_exit c.from_residual.result c.in_err-run_line.field-0.0 _ c.from_residual.ensures.1
    (stops_in (network g.P.Port.received g.P.Port.sent c.args.cast.addresses.now) _ c.args.turns c.args.cast.clients.now c.args.lines.now c.loop-line.line-index _ _ _ _ _ _ c.requires
    c.loop-line.invariant c.in_err-run_line.ensures.leads c.in_err-run_line.ensures.stopped)

pub loop-line-preserved : goal.loop-line-preserved
loop-line-preserved g c =
    one_more_line (network g.P.Port.received g.P.Port.sent c.args.cast.addresses.now) (record { clients = c.args.cast.clients.now; turns = c.args.turns }) _ _ _ c.args.lines.now
    c.loop-line.line-index _ c.line-item.result _ _ _ c.loop-line-test.true c.line-item.is c.loop-line.invariant c.in_ok-run_line.ensures.comes

pub returns-clause-tells : goal.returns-clause-tells
returns-clause-tells g c =
    all_lines (network g.P.Port.received g.P.Port.sent c.args.cast.addresses.now) c.args.turns c.args.cast.clients.now c.args.lines.now c.loop-line.line-index _ _ _ _ c.requires
    c.loop-line-test.false c.loop-line.invariant
