use Rattle.std.proofs.Common.{sym, ◌∙◌}
use Rattle.osc_proxy.specs.{answers}
use Rattle.osc_proxy.proofs.Keys.{first_is_there}
use Rattle.osc_proxy.proofs.case.response_case.Goals as goal

pub returns-in-Some-clause-asks : goal.returns-in-Some-clause-asks
returns-in-Some-clause-asks c =
    let there = first_is_there (answers c.args.from c.args.message.now) c.args.exchanges.now c.in-Some.key (sym c.find.ensures ∙ c.in-Some.is) in
    record { exchange = there.exchange; is = there.is; answers_it = there.passes; coded = c.requires.code; response = c.requires.response; short = c.requires.short }
