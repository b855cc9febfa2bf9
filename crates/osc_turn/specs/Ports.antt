-- What a port tells of the datagrams that it takes and gives, and of the calls that failed.
use Rattle.std.specs.Prelude.{◌≡◌, ◌<◌, ◌++◌, ◌∷◌, [], ℕ, List, Option, Some, None, option_map, take}
use Rattle.osc_model.specs.declared.node.Draw.{Draw}
use Rattle.osc_model.specs.declared.node.Moment.{Moment}
use Rattle.osc_model.specs.declared.node.Peer.{Peer}
use Rattle.osc_run.specs.{Cause, Came, Due}
use Rattle.osc_turn.specs.declared.port.PortFault.{PortFault}

-- a datagram that came: from whom, and its bytes
abbrev pub Received : Type 0
Received = Peer × List ℕ

-- what a receive gives: a sender and the bytes of the buffer that it sent, or nothing
abbrev pub received_in : List ℕ → Option (Peer × ℕ) → Option Received
received_in buffer got = option_map (λ datagram. (datagram.0, take datagram.1 buffer)) got

-- what a look at what waits gave, where that was anything
abbrev pub came_for : Option Received → List (Option Received)
came_for None = []
came_for (Some came) = Some came ∷ []

-- What a node takes its step for, where this was received at this moment: nothing gives a tick.
abbrev pub cause_of : Moment → Draw → Option Received → Cause
cause_of now draw None = Due now draw
cause_of now draw (Some came) = Came (record { at = now; from = came.0; draw = draw; what = came.1 })

-- what a port tells has grown by these; one that doesn't tell goes on so
abbrev pub grown : {A : Type 0} → Option (List A) → List A → Option (List A)
grown told more = option_map (λ items. items ++ more) told

-- a fault is told where a call failed, and nowhere else
abbrev pub CountsFault : Option PortFault → ℕ → ℕ → Type 0
CountsFault None before after = after ≡ before
CountsFault (Some fault) before after = before < after
