use Rattle.std.proofs.Common.{rules}
use Rattle.osc_options.proofs.SplitLaws.{protected_order}
use Rattle.osc_options.proofs.protection.write_protected.Goals as goal

pub fill-requires-clause-order : goal.fill-requires-clause-order
fill-requires-clause-order c =
    let order = protected_order c.fewer_options.ensures.options c.args.message.now.options c.args.value.now c.token.ensures.lawful.options in
    search rules
