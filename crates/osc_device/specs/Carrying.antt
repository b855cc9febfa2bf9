-- What a device begins goes to its server, and what that answers comes back: each a step of a node, and of a kind that a run has.
use Rattle.std.specs.Prelude.{◌≡◌, ℕ, false, List, [], ◌∷◌, Option, Some, None}
use Rattle.osc_model.specs.{read_as}
use Rattle.osc_model.specs.Arrival.{Arrival}
use Rattle.osc_model.specs.declared.node.Draw.{Draw}
use Rattle.osc_model.specs.declared.node.Moment.{Moment}
use Rattle.osc_model.specs.declared.request.Request.{Request}
use Rattle.osc_model.specs.declared.step.Datagram.{Datagram}
use Rattle.osc_model.specs.declared.step.Step.{Step}
use Rattle.osc_message.specs.{heard as heard_as, Receives}
use Rattle.osc_message.specs.declared.received.Received.{Received}
use Rattle.osc_ccm.specs.{Sealings, Tags}
use Rattle.osc_run.specs.{ClientStep, Came}
use Rattle.osc_client.specs.{Requests, Asked, core as client_core, IsStep as IsClientStep, TakesMemory}
use Rattle.osc_client.specs.State.{State as Client}
use Rattle.osc_server.specs.{IsAnswered, IsStep as IsServerStep}
use Rattle.osc_server.specs.State.{State as Server}
use Rattle.osc_device.specs.State.{State, own_address, server_address}
use Rattle.osc_device.specs.declared.draws.OwnDraws.{OwnDraws}
use Rattle.osc_device.specs.declared.round.Round.{Round}

-- a node stays as it is, and makes no step
abbrev pub IsLost : {S : Type 0} → S → Option Step → S → Type 0
IsLost old step new = (step ≡ None) × (new ≡ old)

-- what a server does about these bytes takes memory: it answers them
abbrev pub ServerTakesMemory : Server → Arrival (List ℕ) → Type 0
ServerTakesMemory old came =
    (received : Received) × Receives came.what received
    × IsAnswered old.open_scope (heard_as old.endpoint.seen came.at came.from received)

-- and so of a client: it answers or reads them
abbrev pub ClientTakesMemory : Client → Moment → List ℕ → Type 0
ClientTakesMemory old now bytes =
    (received : Received) × Receives bytes received
    × TakesMemory old server_address (heard_as old.endpoint.seen now server_address received)

-- one datagram of these bytes is what goes out
abbrev pub IsOne : List Datagram → Datagram → Type 0
IsOne out one = out ≡ one ∷ []

-- what was sent, as it comes to the device's server
abbrev pub at_server : Moment → Draw → List Datagram → Arrival (List Datagram)
at_server now draw out = record { at = now; from = own_address; draw = draw; what = out }

-- these bytes, as they come back to the device
abbrev pub at_device : Moment → Draw → List ℕ → Arrival (List ℕ)
at_device now draw bytes = record { at = now; from = server_address; draw = draw; what = bytes }

-- what a device asks of its server: the request, the moment, and what both draw for it
pub record AskedOfServer : Type 0 where
  pub at : Moment
  pub draw : Draw
  pub server_draw : Draw
  pub request : Request

-- it asks so at this moment, with these draws
abbrev pub asked_at : Moment → OwnDraws → Request → AskedOfServer
asked_at now draws request = record { at = now; draw = draws.own; server_draw = draws.server; request = request }

-- the same, as a client asks it
abbrev pub asked_by : AskedOfServer → Asked
asked_by asked = record { at = asked.at; draw = asked.draw; request = asked.request }

-- `is_sealing algorithm` is the relation of the algorithm's cipher
module _ (is_sealing : Sealings) where
  -- the server hears what was sent; or it is lost, since nothing was sent or memory runs out
  pub data Reaches (old : Server) (sent : Arrival (List Datagram)) (step : Option Step) (new : Server) : Type 0 where
    lost : ((one : Datagram) → IsOne sent.what one → ServerTakesMemory old (read_as sent one.bytes)) → IsLost old step new → Reaches old sent step new
    heard : (one : Datagram) (made : Step) → IsOne sent.what one → step ≡ Some made → IsServerStep is_sealing old (Came (read_as sent one.bytes)) made new
        → Reaches old sent step new

  -- the device hears what came back, whatever is drawn; or it is lost, since nothing came back or memory runs out
  pub data ComesBack (old : Client) (now : Moment) (served step : Option Step) (new : Client) : Type 0 where
    lost : ((answer : Step) (one : Datagram) → served ≡ Some answer → IsOne answer.out one → ClientTakesMemory old now one.bytes) → IsLost old step new
        → ComesBack old now served step new
    heard : (answer : Step) (one : Datagram) (made : Step) → served ≡ Some answer → IsOne answer.out one → step ≡ Some made
        → ((draw : Draw) → IsClientStep is_sealing old (Came (at_device now draw one.bytes)) made new)
        → ComesBack old now served step new

  -- both, one after the other; `old` is the device that has begun it
  pub record Carries (old : State) (now : Moment) (server_draw : Draw) (round : Round) (new : State) : Type 0 where
    pub reaches : Reaches old.server (at_server now server_draw round.begun.out) round.served new.server
    pub comes_back : ComesBack old.own now round.served round.learnt new.own

  -- the device asks for this, and what goes out is carried to its server and back
  pub record AsksItsServer (tag : Tags) (old : State) (asked : AskedOfServer) (round : Round) (new : State) : Type 0 where
    pub own : Client
    pub requests : Requests is_sealing tag old.own (asked_by asked) round.begun own
    pub kind : ClientStep false (client_core old.own) round.begun.notes (client_core own)
    pub carries : Carries (record old { own = own }) asked.at asked.server_draw round new
