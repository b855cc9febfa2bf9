-- When a node ticks though datagrams keep coming: in time for what is due, and each 10 ms at the latest.
use Rattle.std.specs.Prelude.{◌≡◌, ◌+◌, ◌∷◌, [], ℕ, Bool, true, false, ◌||◌, nat_le, List, Option, Some, None}
use Rattle.osc_model.specs.declared.node.Moment.{Moment}
use Rattle.osc_turn.specs.Ports.{Received, grown}
use Rattle.osc_turn.specs.Turns.{IsRefusedBy}
use Rattle.osc_turn.specs.declared.error.TurnError.{TurnError}

-- a node has taken what came for 10 ms, since this moment, without a tick between
abbrev pub is_due : Option Moment → Moment → Bool
is_due None now = false
is_due (Some since) now = nat_le (since.ms + 10) now.ms

-- A node ticks where something of its own is due, and where it has taken what came for 10 ms.
abbrev pub must_tick : Bool → Option Moment → Moment → Bool
must_tick acts busy now = acts || is_due busy now

-- since when, after one more turn at this moment in which a datagram came, or none
abbrev pub busy_after : Option Moment → Moment → Bool → Option Moment
busy_after busy now false = None
busy_after None now true = Some now
busy_after (Some since) now true = Some since

-- Where a tick is due, nothing came, and the port wasn't asked; else it gave what came.
abbrev pub CameIn : Bool → Option Received → Option (List (Option Received)) → Option (List (Option Received)) → Type 0
CameIn true came received received_after = (came ≡ None) × (received_after ≡ received)
CameIn false came received received_after = received_after ≡ grown received (came ∷ [])

-- Where a tick is due nothing is refused: a tick is done whatever memory there is.
abbrev pub IsRefusedIn : Bool → TurnError → Option (List (Option Received)) → Option (List (Option Received)) → ℕ → ℕ → Type 0
IsRefusedIn true error received received_after failures failures_after = ⊥
IsRefusedIn false error received received_after failures failures_after = IsRefusedBy error received received_after failures failures_after
