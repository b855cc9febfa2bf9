-- What a server keeps.
use Rattle.osc_model.specs.Tree.{Tree}
use Rattle.osc_model.specs.Scope.{Scope}
use Rattle.osc_model.specs.declared.node.Moment.{Moment}
use Rattle.osc_authz.specs.{of_tokens, DeskState}
use Rattle.osc_authz.specs.Standing.{Standing}
use Rattle.osc_message.specs.{EndpointState}
use Rattle.osc_run.specs.{ServerState}

-- the resources, the security contexts with the desk that adds them, what needs no protection, and the message layer
pub record State : Type 0 where
  pub tree : Tree
  pub desk : DeskState
  pub open_scope : Scope
  pub endpoint : EndpointState

-- what its contexts are judged by at a moment: that, and its resources
abbrev pub standing_of : State → Moment → Standing
standing_of state now = record { at = now; tree = state.tree }

-- what a run knows of it
abbrev pub core : State → ServerState
core state = record { contexts = of_tokens state.desk.table; tree = state.tree; rules = state.desk.rules }
