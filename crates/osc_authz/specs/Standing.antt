-- What a context is judged by.
use Rattle.osc_model.specs.Tree.{Tree}
use Rattle.osc_model.specs.declared.node.Moment.{Moment}

-- when, and on which resources
pub record Standing : Type 0 where
  pub at : Moment
  pub tree : Tree
