use Rattle.std.proofs.Common.{rules}
use Rattle.osc_script.proofs.Nodes.{no_node}
use Rattle.osc_script.proofs.node.NodeName.at.Goals as goal

pub returns-in_err-at-in-None-clause-none : goal.returns-in_err-at-in-None-clause-none
returns-in_err-at-in-None-clause-none c =
    let client = rw c.in-None.is at c.at.ensures.none in
    let proxy = rw c.in_err-at-in-None.was at c.at-in-None.ensures.none in
    rw c.from_residual.ensures (no_node c.args.peer (λ e. search rules) (λ e. search rules) client proxy)
