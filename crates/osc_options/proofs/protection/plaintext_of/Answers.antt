use Rattle.std.proofs.Common.{rules}
use Rattle.osc_options.proofs.SplitLaws.{inner_order}
use Rattle.osc_options.proofs.protection.plaintext_of.Goals as goal

pub add_inner_options-requires-clause-order : goal.add_inner_options-requires-clause-order
add_inner_options-requires-clause-order c =
    let order = inner_order c.fewer_options.ensures.options c.args.message.now.options c.options.ensures.lawful.options in
    search rules
