use Rattle.std.proofs.Common.{rules}
use Rattle.osc_proxy.specs.Inner.Rewriting.{stays}
use Rattle.osc_proxy.proofs.OptionLaws.{AreInOrder-options}
use Rattle.osc_proxy.proofs.forwarding.rewrite.Goals as goal

pub add_options-requires-clause-order : goal.add_options-requires-clause-order
add_options-requires-clause-order c =
    let order = AreInOrder-options 0 _ (c.fewer_options.ensures.options (λ option. stays c.args.rewriting option.0) 0 c.args.message.now.options c.options.ensures.lawful.options) in
    search rules
