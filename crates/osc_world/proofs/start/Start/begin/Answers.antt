use Rattle.std.proofs.Common.{ap, sym, subst, List, [], ◌∙◌}
use Rattle.osc_run.specs.{IsStart, Minted}
use Rattle.osc_world.specs.{AreParts, Beginning, NodeStates, run_with}
use Rattle.osc_world.proofs.Enrolling.{is_start}
use Rattle.osc_world.proofs.start.Start.begin.Goals as goal

pub begun-requires-clause-start : goal.begun-requires-clause-start
begun-requires-clause-start c =
    let parts = subst (λ (start : Beginning). AreParts start c.in_ok-minted.field-0) (sym c.self.view_is) c.in_ok-minted.ensures in
    subst (λ (minted : List Minted). IsStart (run_with minted c.in_ok-first.first c.in_ok-minted.field-0.nodes [])) (sym parts.minted)
    (is_start c.self.inside.minted.items c.in_ok-first.first c.self.inside.clients.items c.in_ok-minted.field-0.nodes c.self.invariant.0
    (ap (λ (n : NodeStates). n.clients) parts.nodes)
    (ap (λ (n : NodeStates). n.server.tree) parts.nodes ∙ sym c.in_ok-first.ensures)
    (ap (λ (n : NodeStates). n.server.desk.table) parts.nodes))
