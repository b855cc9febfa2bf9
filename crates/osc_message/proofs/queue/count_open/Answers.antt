use Rattle.std.proofs.Common.{◌≡◌, count_by, arith, rules}
use Rattle.osc_message.specs.{is_to, messages}
use Rattle.osc_message.proofs.Limits.{both, count_is, goes_to, waits_for}
use Rattle.osc_message.proofs.Marks.{count_messages}
use Rattle.osc_message.proofs.queue.count_open.Goals as goal

pub returns : goal.returns
returns c =
    let p = c.args.peer in
    let ms = messages c.args.all.now in
    let counted : c.count.result ≡ count_by (λ queued. is_to p queued.message) c.args.all.now = search rules in
    omega (arith, counted, count_messages (is_to p) c.args.all.now, both p ms, count_is (goes_to p) ms, count_is (waits_for p) ms)
