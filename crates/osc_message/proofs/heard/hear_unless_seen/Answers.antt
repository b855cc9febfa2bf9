use Rattle.std.proofs.Common.{◌≡◌, Some, rules, subst, sym}
use Rattle.osc_dedup.specs.{looked}
use Rattle.osc_message.specs.{IsSendableReply}
use Rattle.osc_message.proofs.Notes.{looked_fits}
use Rattle.osc_message.proofs.heard.hear_unless_seen.Goals as goal

pub repeat-requires : goal.repeat-requires
repeat-requires c =
    let noted = c.in-Some.noted.now in
    let is : looked c.args.now c.args.from c.args.message.id c.args.seen.now ≡ Some noted = search rules in
    subst IsSendableReply (sym c.as_ref.ensures.value) (looked_fits c.args.seen.now c.args.now c.args.from c.args.message.id noted c.requires is)
