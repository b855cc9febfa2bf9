-- What a device's last step changed, as include/nozzlefern.h tells it.
use Rattle.std.specs.Prelude.{◌≡◌, ℕ, ◌++◌, Bool, true, false, is_some, List, [], length, Option, Some, None, MatchOption, option_map}
use Rattle.std.specs.FinMap as map
use Rattle.osc_model.specs.{format_of}
use Rattle.osc_model.specs.declared.resource.Resource.{Resource}
use Rattle.osc_c.specs.Arguments.{format_number}
use Rattle.osc_c.specs.Filling.{if_fits, written}
use Rattle.osc_c.specs.Keeping.{waits_for}
use Rattle.osc_c.specs.Last.{path_changed}
use Rattle.osc_c.specs.declared.calls.keeping.KeptNode.{KeptNode}
use Rattle.osc_c.specs.declared.calls.outcome.Outcome.{Outcome}
use Rattle.osc_c.specs.declared.calls.outcome.Outcome.TheVariants.{Nothing}
use Rattle.osc_c.specs.declared.calls.plain.PlainChange.{PlainChange}

-- a path, what it has now, if it has something, and whether that waits to be kept
pub record Change : Type 0 where
  pub path : List ℕ
  pub value : Option Resource
  pub waits : Bool

abbrev pub change_at : KeptNode → List ℕ → Change
change_at kept path = record { path = path; value = map.get kept.node.device.server.tree path; waits = waits_for kept.keeping kept.node.last }

-- what the last step changed, if it changed anything
abbrev pub change_of : KeptNode → Option Change
change_of kept = option_map (change_at kept) (path_changed kept.node.last)

abbrev pub flag_of : Bool → ℕ
flag_of true = 1
flag_of false = 0

abbrev pub payload_of : Option Resource → List ℕ
payload_of (Some resource) = resource.payload
payload_of None = []

abbrev pub told_change : Change → PlainChange → PlainChange
told_change change old = record {
  size = old.size;
  is_there = flag_of (is_some change.value);
  waits = flag_of change.waits;
  format = format_number (format_of change.value);
  path_length = length change.path;
  payload_length = length (payload_of change.value);
}

-- its bytes: the path, and the payload after it
abbrev pub change_bytes : Change → List ℕ
change_bytes change = change.path ++ payload_of change.value

-- Its numbers are told, and its bytes are written where there is room.
abbrev pub HasChange : Change → PlainChange → List ℕ → Outcome → PlainChange → List ℕ → Type 0
HasChange change old room outcome new filled =
    (outcome ≡ if_fits (change_bytes change) room) × (new ≡ told_change change old) × (filled ≡ written (change_bytes change) room)

-- It is told, where there was one.
abbrev pub TellsChange : Option Change → PlainChange → List ℕ → Outcome → PlainChange → List ℕ → Type 0
TellsChange found old room outcome new filled =
    MatchOption found ((outcome ≡ Nothing) × (new ≡ old) × (filled ≡ room))
    (λ change. HasChange change old room outcome new filled)
