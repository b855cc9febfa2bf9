-- What is at a path, as include/nozzlefern.h tells it.
use Rattle.std.specs.Prelude.{◌≡◌, ℕ, ◌⊎◌, List, length, Option, Some, MatchOption}
use Rattle.std.specs.FinMap as map
use Rattle.osc_model.specs.{IsPath, etag_of}
use Rattle.osc_model.specs.declared.resource.Resource.{Resource}
use Rattle.osc_c.specs.Arguments.{format_number}
use Rattle.osc_c.specs.Filled.{where_whole}
use Rattle.osc_c.specs.Filling.{if_fits, written}
use Rattle.osc_c.specs.Given.{value_size}
use Rattle.osc_c.specs.Plain.{plain_etag}
use Rattle.osc_c.specs.declared.calls.device.DeviceNode.{DeviceNode}
use Rattle.osc_c.specs.declared.calls.outcome.Outcome.{Outcome}
use Rattle.osc_c.specs.declared.calls.outcome.Outcome.TheVariants.{BadArgument, NoMemory, Nothing}
use Rattle.osc_c.specs.declared.calls.plain.PlainValue.{PlainValue}

-- a caller's room for a payload, and what it is told of it
pub record ValueRoom : Type 0 where
  pub payload : List ℕ
  pub value : PlainValue

-- its numbers, and the ETag that answers a GET where the struct has room for it
abbrev pub told_value : Resource → PlainValue → PlainValue
told_value resource old = record {
  size = old.size;
  format = format_number resource.format;
  length = length resource.payload;
  etag = where_whole value_size old.size (plain_etag (Some (etag_of resource))) old.etag;
}

abbrev pub HasValue : Resource → ValueRoom → Outcome → ValueRoom → Type 0
HasValue resource room outcome filled =
    (outcome ≡ if_fits resource.payload room.payload) × (filled.payload ≡ written resource.payload room.payload)
    × (filled.value ≡ told_value resource room.value)

-- nothing is told
abbrev pub TellsNoValue : ValueRoom → ValueRoom → Type 0
TellsNoValue room filled = (filled.payload ≡ room.payload) × (filled.value ≡ room.value)

abbrev pub TellsValue : Option Resource → ValueRoom → Outcome → ValueRoom → Type 0
TellsValue found room outcome filled =
    MatchOption found ((outcome ≡ Nothing) × TellsNoValue room filled) (λ resource. HasValue resource room outcome filled)

-- What is at a path is told, or there was no memory for the path; of a text that isn't one nothing is, whatever memory there is.
abbrev pub TellsValueAt : DeviceNode → List ℕ → ValueRoom → Outcome → ValueRoom → Type 0
TellsValueAt node path room outcome filled =
    (IsPath path × (TellsValue (map.get node.device.server.tree path) room outcome filled ⊎ ((outcome ≡ NoMemory) × TellsNoValue room filled)))
    ⊎ (¬ (IsPath path) × (outcome ≡ BadArgument) × TellsNoValue room filled)
