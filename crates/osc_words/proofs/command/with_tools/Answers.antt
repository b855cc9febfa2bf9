use Rattle.std.proofs.Common.{◌∙◌, ap₂}
use Rattle.std.proofs.lemmas.Result.{IfOk-weaker}
use Rattle.clap.specs.Words.{with_subcommand}
use Rattle.osc_words.proofs.Subcommands.{top}
use Rattle.osc_words.proofs.command.with_tools.Goals as goal

pub returns : goal.returns
returns c =
    let with_sim = c.in_ok-subcommand.ensures.shape c.in_ok-sim_command.ensures.local
    ∙ ap₂ with_subcommand c.bare_program.ensures.app (top c.in_ok-sim_command.ensures.app) in
    let with_token = c.in_ok-subcommand-2.ensures.shape c.in_ok-token_command.ensures.local
    ∙ ap₂ with_subcommand with_sim (top c.in_ok-token_command.ensures.app) in
    let with_key = c.in_ok-subcommand-3.ensures.shape c.key_command.ensures.local
    ∙ ap₂ with_subcommand with_token (top c.key_command.ensures.app) in
    IfOk-weaker c.subcommand-4.result _ _
    (λ command added. added.shape c.in_ok-store_command.ensures.local ∙ ap₂ with_subcommand with_key (top c.in_ok-store_command.ensures.app)) c.subcommand-4.ensures
