use Rattle.std.proofs.Common.{◌∙◌, ap, ap₂}
use Rattle.std.proofs.lemmas.Result.{IfOk-weaker}
use Rattle.clap.specs.Words.{app_of, with_subcommand}
use Rattle.osc_words.proofs.Subcommands.{top}
use Rattle.osc_words.proofs.command.with_asking.Goals as goal

pub returns : goal.returns
returns c =
    let with_client = c.in_ok-subcommand.ensures.shape c.in_ok-client_command.ensures.local
    ∙ ap (with_subcommand (app_of c.args.command)) (top c.in_ok-client_command.ensures.app) in
    let with_context = c.in_ok-subcommand-2.ensures.shape c.in_ok-context_command.ensures.local
    ∙ ap₂ with_subcommand with_client (top c.in_ok-context_command.ensures.app) in
    IfOk-weaker c.subcommand-3.result _ _
    (λ command added. added.shape c.in_ok-lab_command.ensures.local ∙ ap₂ with_subcommand with_context (top c.in_ok-lab_command.ensures.app)) c.subcommand-3.ensures
