use Rattle.std.proofs.Common.{◌++◌, ◌∙◌, ap, drop}
use Rattle.osc_log.specs.Sent.{told_by}
use Rattle.osc_log.proofs.Sent.{told_next, told_last}
use Rattle.osc_log.proofs.told.told_by.Goals as goal

pub loop-datagram-init : goal.loop-datagram-init
loop-datagram-init c =
    let telling = c.args.telling.now in
    let turn = c.args.turn.now in
    let out = c.sent-datagram-items in
    ap (λ text. text ++ told_by telling turn c.args.limits (drop 0 out.result.now)) c.new-text.ensures.items
    ∙ ap (λ all. told_by telling turn c.args.limits (drop 0 all)) out.ensures

pub loop-datagram-preserved : goal.loop-datagram-preserved
loop-datagram-preserved c =
    let out = c.sent-datagram-items.result.now in
    let loop = c.loop-datagram in
    let told = c.in_ok-add.ensures ∙ ap (λ more. loop.text.items ++ more) (c.deref.ensures.value ∙ c.in_ok-told_of.ensures) in
    told_next c.args.telling.now c.args.turn.now loop.counted c.after_line-counted.result loop.text.items c.add.new.text.items _ out loop.datagram-index c.datagram-item.result c.loop-datagram-test.true c.datagram-item.is
    told c.after_line-counted.ensures loop.invariant

pub returns : goal.returns
returns c =
    told_last c.args.telling.now c.args.turn.now c.loop-datagram.counted c.loop-datagram.text.items _ c.sent-datagram-items.result.now c.loop-datagram.datagram-index c.loop-datagram-test.false c.loop-datagram.invariant
