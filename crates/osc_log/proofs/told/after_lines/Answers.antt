use Rattle.std.proofs.Common.{ap, drop}
use Rattle.osc_log.specs.Sent.{after_lines}
use Rattle.osc_log.proofs.Sent.{counts_next, counts_last}
use Rattle.osc_log.proofs.told.after_lines.Goals as goal

pub loop-datagram-init : goal.loop-datagram-init
loop-datagram-init c = ap (λ all. after_lines c.args.turn.now c.args.limits (drop 0 all)) c.sent-datagram-items.ensures

pub loop-datagram-preserved : goal.loop-datagram-preserved
loop-datagram-preserved c =
    let loop = c.loop-datagram in
    counts_next c.args.turn.now loop.counted c.after_line-counted.result _ c.sent-datagram-items.result.now loop._datagram-index c._datagram-item.result c.loop-datagram-test.true c._datagram-item.is c.after_line-counted.ensures loop.invariant

pub returns : goal.returns
returns c = counts_last c.args.turn.now c.loop-datagram.counted _ c.sent-datagram-items.result.now c.loop-datagram._datagram-index c.loop-datagram-test.false c.loop-datagram.invariant
