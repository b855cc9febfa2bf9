use Rattle.std.proofs.Common.{◌≡◌, nat_eq, count_by, ◌∙◌, rules}
use Rattle.osc_message.proofs.Marks.{count_firsts}
use Rattle.osc_message.proofs.queue.count_peers.Goals as goal

pub returns : goal.returns
returns c =
    let counted : c.count.result ≡ count_by (λ queued. nat_eq queued.place 0) c.args.all.now = search rules in
    counted ∙ count_firsts c.args.all.now c.requires
