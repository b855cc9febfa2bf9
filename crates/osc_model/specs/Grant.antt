-- Grants: what the holder of a token may do, and until when (RFC 9200 section 5.8, RFC 8392 section 3.1).
use Rattle.std.specs.Prelude.{ℕ, ◌/◌, ◌≤◌, ◌<◌, List, Option, Some, None, find, bytes_eq}
use Rattle.std.specs.Option.{ForSome}
use Rattle.std.specs.FinSet as set
use Rattle.osc_model.specs.Scope.{Scope}
use Rattle.osc_model.specs.declared.algorithm.Algorithm.{Algorithm}
use Rattle.osc_model.specs.declared.context.ContextName.{ContextName}
use Rattle.osc_model.specs.declared.node.Moment.{Moment}

-- A token's id, the input material of its contexts (RFC 9203 section 3.2.1), the scope, the times in whole seconds, and the client that holds it.
pub record Grant : Type 0 where
  pub id : List ℕ
  pub secret : List ℕ
  pub salt : List ℕ
  pub id_context : Option (List ℕ)
  pub alg : Algorithm
  pub scope : Scope
  pub not_before : Option ℕ
  pub expires : Option ℕ
  pub holder : ℕ

-- A token's dates are whole seconds, and moments are milliseconds. An absent date sets no bound.
abbrev pub HasBegun : Option ℕ → Moment → Type 0
HasBegun not_before moment = ForSome not_before (λ seconds. seconds ≤ moment.ms / 1000)

abbrev pub IsNotOver : Option ℕ → Moment → Type 0
IsNotOver expires moment = ForSome expires (λ seconds. moment.ms / 1000 < seconds)

-- the moment is in the grant's time
pub record IsTimely (grant : Grant) (moment : Moment) : Type 0 where
  pub begun : HasBegun grant.not_before moment
  pub not_over : IsNotOver grant.expires moment

-- a context belongs to the grant with its secret
abbrev pub grant_of : List Grant → ContextName → Option Grant
grant_of grants name = find (λ grant. bytes_eq grant.secret name.secret) grants

abbrev pub scope_of : Option Grant → Scope
scope_of None = set.empty
scope_of (Some grant) = grant.scope
