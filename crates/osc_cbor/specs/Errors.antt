-- The numbers of the refusals, and what a read gives.
use Rattle.std.specs.Prelude.{◌≡◌, ℕ, Result, Ok, Err}
use Rattle.osc_model.specs.Refusals as refusal
use Rattle.osc_cbor.specs.Data.{DataItem}
use Rattle.osc_cbor.specs.View.{view}
use Rattle.osc_cbor.specs.declared.item.Item.{Item}
use Rattle.osc_cbor.specs.declared.error.ReadError.{ReadError}
use Rattle.osc_cbor.specs.declared.error.ReadError.TheVariants.{Truncated, Unsupported, DuplicateKey, TooDeep, Memory}

abbrev pub number_of : ReadError → ℕ
number_of Truncated = refusal.truncated
number_of Unsupported = refusal.unsupported
number_of DuplicateKey = refusal.duplicate_key
number_of TooDeep = refusal.too_deep
number_of Memory = refusal.memory

-- the item and the count of its bytes are read, unless memory runs out
abbrev pub GivesItem : Result (Item × ℕ) ReadError → DataItem → ℕ → Type 0
GivesItem (Ok found) d count = (view found.0 ≡ d) × (found.1 ≡ count)
GivesItem (Err fault) d count = fault ≡ Memory
