use Rattle.std.proofs.Common.{◌≡◌, ◌∙◌, ◌||◌, false, ap, rules}
use Rattle.std.proofs.lemmas.Result.{IfOk-weaker}
use Rattle.clap.specs.declared.builder.command.Command.TheViews.{out-Command}
use Rattle.osc_words.proofs.Subcommands.{or_false}
use Rattle.osc_words.proofs.command.with_word.Goals as goal

pub returns-clause-local : goal.returns-clause-local
returns-clause-local c =
    let not_global : c.required-arg.result.global ≡ false = search rules in
    IfOk-weaker c.arg.result _ _
    (λ more added. added.globals ∙ (ap (λ global. (out-Command c.args.command).has_globals || global) not_global ∙ or_false ((out-Command c.args.command).has_globals))) c.arg.ensures
