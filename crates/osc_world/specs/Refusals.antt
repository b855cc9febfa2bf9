-- Why a client or a proxy can't be taken in.
use Rattle.std.specs.Prelude.{◌≡◌, true, false}
use Rattle.osc_model.specs.declared.node.Peer.{Peer}
use Rattle.osc_authz.specs.{IsRefusal}
use Rattle.osc_world.specs.declared.error.AdmitError.{AdmitError}
use Rattle.osc_world.specs.declared.error.AdmitError.TheVariants as admit
use Rattle.osc_world.specs.declared.error.PlaceError.{PlaceError}
use Rattle.osc_world.specs.declared.error.PlaceError.TheVariants as place
use Rattle.osc_world.specs.declared.start.NewHolder.{NewHolder}
use Rattle.osc_world.specs.Nodes.{is_among}
use Rattle.osc_world.specs.Starts.{Beginning, places_of}

-- a node is there, or none does
abbrev pub IsTaken : Beginning → Peer → Type 0
IsTaken start at = is_among at (places_of start) ≡ true

abbrev pub IsFree : Beginning → Peer → Type 0
IsFree start at = is_among at (places_of start) ≡ false

-- Why a client can't be taken in: its address, then its claims.
abbrev pub Refuses : Beginning → NewHolder → AdmitError → Type 0
Refuses start holder admit.AddressTaken = IsTaken start holder.at
Refuses start holder (admit.Refused error) = IsFree start holder.at × IsRefusal holder.claims error

-- why a proxy can't be placed there
abbrev pub RefusesPlace : Beginning → Peer → PlaceError → Type 0
RefusesPlace start at place.AddressTaken = IsTaken start at
RefusesPlace start at place.Memory = IsFree start at
