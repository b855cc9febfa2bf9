-- A message that comes to a node, as one datagram.
use Rattle.std.specs.Prelude.{ℕ, List}
use Rattle.osc_model.specs.{read_as}
use Rattle.osc_model.specs.Arrival.{Arrival}
use Rattle.osc_model.specs.declared.node.Draw.{Draw}
use Rattle.osc_model.specs.declared.node.Moment.{Moment}
use Rattle.osc_model.specs.declared.node.Peer.{Peer}
use Rattle.osc_coap.specs.{spelling}
use Rattle.osc_coap.specs.Message.{Message}

-- the bytes that it comes as
abbrev pub in_bytes : Arrival Message → Arrival (List ℕ)
in_bytes came = read_as came (spelling came.what)

-- the same of this message, which comes at this moment from there, with these random bytes for the step
abbrev pub coming : Moment → Peer → Draw → Message → Arrival (List ℕ)
coming at from draw message = record { at = at; from = from; draw = draw; what = spelling message }
