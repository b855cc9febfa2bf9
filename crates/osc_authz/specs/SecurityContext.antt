-- A context of a server.
use Rattle.std.specs.Prelude.{ℕ, List, Option}
use Rattle.osc_model.specs.Scope.{Scope}
use Rattle.osc_model.specs.declared.context.ContextName.{ContextName}

-- its name, the rights and the time of the token that made it, the path at which a resource says that this token is revoked, where its
-- server has a revocation path, the second from which on it is too old, where its server has a greatest age, and the window of the
-- numbers that it accepted
pub record SecurityContext : Type 0 where
  pub name : ContextName
  pub scope : Scope
  pub not_before : Option ℕ
  pub expires : Option ℕ
  pub revocation : Option (List ℕ)
  pub ends : Option ℕ
  pub window : List ℕ
