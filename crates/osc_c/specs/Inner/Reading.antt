-- Why a text of a scope isn't read.
use Rattle.std.specs.Prelude.{◌≡◌, ◌⊎◌}
use Rattle.osc_c.specs.declared.calls.outcome.Outcome.{Outcome}
use Rattle.osc_c.specs.declared.calls.outcome.Outcome.TheVariants.{BadScope, NoMemory}

-- it says none, for this reason; or there was no memory
abbrev pub IsUnread : Type 0 → Outcome → Type 0
IsUnread Why outcome = ((outcome ≡ BadScope) × Why) ⊎ (outcome ≡ NoMemory)
