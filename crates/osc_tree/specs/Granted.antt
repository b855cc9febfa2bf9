-- What a grant speaks of.
use Rattle.osc_model.specs.Scope.{Scope}
use Rattle.osc_model.specs.declared.request.Request.{Request}

-- a request, and the scope that grants it
pub record Granted : Type 0 where
  pub scope : Scope
  pub request : Request
