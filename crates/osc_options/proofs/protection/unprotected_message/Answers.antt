use Rattle.std.proofs.Common.{rules}
use Rattle.osc_options.proofs.SplitLaws.{unprotected_order}
use Rattle.osc_options.proofs.protection.unprotected_message.Goals as goal

pub message_of-requires-clause-order : goal.message_of-requires-clause-order
message_of-requires-clause-order c =
    let order = unprotected_order c.fewer_options.ensures.options c.args.outer.now.options c.args.inner.now.options c.token.ensures.lawful.options c.payload.ensures.lawful.options in
    search rules
