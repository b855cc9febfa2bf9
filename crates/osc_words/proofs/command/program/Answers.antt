use Rattle.std.proofs.Common.{◌∙◌, ap, codes}
use Rattle.std.proofs.lemmas.Result.{IfOk-weaker}
use Rattle.clap.specs.Words.{App, with_subcommand}
use Rattle.osc_words.specs.{client_app, context_app, lab_app, node_app}
use Rattle.osc_words.proofs.command.program.Goals as goal

with_nodes : App → App
with_nodes app = with_subcommand (with_subcommand app (node_app (codes "server")).top) (node_app (codes "proxy")).top

with_asking : App → App
with_asking app = with_subcommand (with_subcommand (with_subcommand app client_app.top) context_app.top) lab_app.top

pub returns : goal.returns
unfolding with_nodes with_asking
returns c =
    let nodes = c.in_ok-with_nodes.ensures ∙ ap with_nodes c.in_ok-with_tools.ensures in
    IfOk-weaker c.with_asking.result _ _ (λ _ is. is ∙ ap with_asking nodes) c.with_asking.ensures
