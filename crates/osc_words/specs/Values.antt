-- What the values of options spell.
use Rattle.std.specs.Prelude.{◌≡◌, ℕ, ◌^◌, ◌-◌, List, Option, Some, None}
use Rattle.osc_script.specs.{client_name, SpellsNumber}
use Rattle.osc_script.specs.declared.client_name.ClientName.{ClientName}

-- a number of turns; where there is no text, as many as a number of 64 bits counts
abbrev pub SpellsTurns : Option (List ℕ) → ℕ → Type 0
SpellsTurns (Some text) turns = SpellsNumber text turns
SpellsTurns None turns = turns ≡ 2 ^ 64 - 1

-- the client of this name, c1 to c9
abbrev pub SpellsClient : List ℕ → ClientName → Type 0
SpellsClient text client = text ≡ client_name client

-- There is a value exactly where there is a text, and the text spells it.
abbrev pub IsGiven : {X : Type 0} → (List ℕ → X → Type 0) → Option (List ℕ) → Option X → Type 0
IsGiven Spells (Some text) (Some value) = Spells text value
IsGiven Spells None None = Unit {0}
IsGiven Spells text value = ⊥
