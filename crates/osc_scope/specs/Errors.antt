-- The numbers of the refusals.
use Rattle.std.specs.Prelude.{ℕ}
use Rattle.osc_model.specs.Refusals as refusal
use Rattle.osc_scope.specs.declared.error.ScopeError.{ScopeError}
use Rattle.osc_scope.specs.declared.error.ScopeError.TheVariants.{BadScope, Memory}

abbrev pub number_of : ScopeError → ℕ
number_of BadScope = refusal.bad_scope
number_of Memory = refusal.memory
