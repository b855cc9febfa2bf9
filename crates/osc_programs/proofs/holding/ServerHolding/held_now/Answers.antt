use Rattle.std.proofs.Common.{◌∙◌, ap, ap₂}
use Rattle.std.specs.FinMap as map
use Rattle.osc_authz.specs.{DeskState}
use Rattle.osc_log.specs.declared.held.Held.TheVariants.{Server}
use Rattle.osc_model.specs.Tree.{Tree}
use Rattle.osc_programs.specs.{contexts_of}
use Rattle.osc_programs.proofs.holding.ServerHolding.held_now.Goals as goal

pub returns : goal.returns
returns c =
    ap₂ Server (c.contexts_of.ensures ∙ ap (λ (desk : DeskState). contexts_of desk.table) c.desk.ensures.desk)
    (c.len.ensures.len ∙ ap (λ (tree : Tree). map.len tree) c.tree.ensures)
