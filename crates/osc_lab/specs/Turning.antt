-- The turns of a lab's nodes at their ports, and how long they take them.
use Rattle.std.specs.Prelude.{◌≡◌, ◌<◌, ◌==◌, ◌||◌, ℕ, suc, Bool, true, false, List, Option, Some, None, if◌then◌else◌, is_some, length, map, option_map, slice_get}
use Rattle.osc_model.specs.declared.node.Draw.{Draw}
use Rattle.osc_model.specs.declared.node.Moment.{Moment}
use Rattle.osc_model.specs.declared.step.Datagram.{Datagram}
use Rattle.osc_client.specs.{acts_at}
use Rattle.osc_proxy.specs.{acts as proxy_acts}
use Rattle.osc_server.specs.{acts as server_acts}
use Rattle.osc_script.specs.declared.line.Line.{Line}
use Rattle.osc_script.specs.declared.line.Line.TheVariants.{Exchange, Ask}
use Rattle.osc_turn.specs.{CameIn, ClockAndRandomState, Gives, Received, busy_after, cause_of, grown, must_tick}
use Rattle.osc_world.specs.{Begin, ClientTask, Ask as Asks, Deed, NodeStates, Nothing, OfClient, Take, deed_by}
use Rattle.osc_world.specs.declared.nodes.Placed.{Placed}
use Rattle.osc_world.specs.declared.nodes.Whose.{Whose}
use Rattle.osc_world.specs.declared.nodes.Whose.TheVariants as whose
use Rattle.osc_lab.specs.Lab.{Goes, Lab, is_waiting, out_of}
use Rattle.osc_lab.specs.Network.{Network, Ports, named, port_of, posted, with_port}
use Rattle.osc_lab.specs.declared.ports.PacedPort.{PacedPort}

-- a lab as it runs: its nodes, their ports, and what hands them moments and draws
pub record LiveLab (P : Type 0) : Type 0 where
  pub lab : Lab
  pub ports : Ports P
  pub supply : ClockAndRandomState

-- ---- one turn

-- whether something of its own is due at this moment, where there is a node
abbrev pub acts_there : {S : Type 0} → (S → Moment → Bool) → Option (Placed S) → Moment → Bool
acts_there acts None now = false
acts_there acts (Some placed) now = acts placed.node now

-- of this node
abbrev pub acts_of : NodeStates → Whose → Moment → Bool
acts_of nodes whose.Server now = server_acts nodes.server now
acts_of nodes (whose.Client number) now = acts_there acts_at (slice_get nodes.clients number) now
acts_of nodes (whose.Proxy number) now = acts_there (λ proxy moment. proxy_acts moment proxy) (slice_get nodes.proxies number) now
acts_of nodes whose.Nobody now = false

-- A node was busy in a turn where it took a datagram in it, or in its last one: after that it may tick though something waits.
abbrev pub was_busy : Option Moment → Option Received → Bool
was_busy since came = is_some since || is_some came

module _ {P : Type 0} (net : Network P) where
  -- A node's turn at its port, at this moment: a datagram came there, or none, which is what the port gave; where a tick is due, the port
  -- wasn't asked. These datagrams were handed to it, each to a socket.
  pub record TurnsAt (acts : Bool) (now : Moment) (came : Option Received) (out : List Datagram) (old new : PacedPort P) : Type 0 where
    pub came_in : CameIn (must_tick acts old.pace.busy_since now) came (net.received old.port) (net.received new.port)
    pub handed : net.sent new.port ≡ grown (net.sent old.port) (map (posted net.sockets) out)
    pub pace : new.pace.busy_since ≡ busy_after old.pace.busy_since now (is_some came)

  -- This node took a turn, at the next moment and with the next draw: a step for what came, or for what was due.
  pub record Turn (who : Whose) (busy : Bool) (old new : LiveLab P) : Type 0 where
    pub now : Moment
    pub draw : Draw
    pub came : Option Received
    pub gives : Gives old.supply now draw new.supply
    pub goes : Goes (deed_by who (Take (cause_of now draw (option_map (named net.sockets) came)))) old.lab new.lab
    pub port : PacedPort P
    pub there : port_of old.ports who ≡ Some port
    pub after : PacedPort P
    pub at_port : TurnsAt (acts_of old.lab.nodes who now) now came (out_of goes.taken) port after
    pub ports : new.ports ≡ with_port old.ports who after
    pub is_busy : busy ≡ was_busy port.pace.busy_since came

  -- ---- whole turns

  -- this number of these nodes took one, in the order of their numbers, and whether one of them was busy
  pub data Turns (who : ℕ → Whose) (first : LiveLab P) : ℕ → Bool → LiveLab P → Type 0 where
    no_turn : Turns who first 0 false first
    next_turn : (n : ℕ) (some busy : Bool) (between last : LiveLab P) → Turns who first n some between → Turn (who n) busy between last
        → Turns who first (suc n) (some || busy) last

  -- Each node took one: the server, the proxies, and then the clients.
  pub record WholeTurn (busy : Bool) (old new : LiveLab P) : Type 0 where
    pub served : LiveLab P
    pub forwarded : LiveLab P
    pub busy_server : Bool
    pub busy_proxies : Bool
    pub busy_clients : Bool
    pub server : Turn whose.Server busy_server old served
    pub proxies : Turns whose.Proxy served (length served.lab.nodes.proxies) busy_proxies forwarded
    pub clients : Turns whose.Client forwarded (length forwarded.lab.nodes.clients) busy_clients new
    pub is_busy : busy ≡ busy_server || (busy_proxies || busy_clients)

  -- this number of whole turns, in each of which a node was busy, or after which the client of this number waits
  pub data WholeTurns (number : ℕ) (first : LiveLab P) : ℕ → LiveLab P → Type 0 where
    no_whole_turn : WholeTurns number first 0 first
    next_whole_turn : (n : ℕ) (busy : Bool) (between last : LiveLab P) → WholeTurns number first n between → WholeTurn busy between last
        → (busy || is_waiting last.lab.nodes.clients number) ≡ true → WholeTurns number first (suc n) last

  -- As many whole turns as there may be; or fewer, and a last one in which no node was busy, after which the client of this number waits for
  -- nothing.
  pub data TakesTurns (number most : ℕ) (first last : LiveLab P) : Type 0 where
    all_taken : WholeTurns number first most last → TakesTurns number most first last
    rested : (n : ℕ) (between : LiveLab P) → n < most → WholeTurns number first n between → WholeTurn false between last
        → is_waiting last.lab.nodes.clients number ≡ false → TakesTurns number most first last

-- ---- what a line has its client do

-- at some moment and with some draw: it posts its token, or sends a request, protected; a request with the code 0.00 is no request
abbrev pub task_of : Line → Moment → Draw → Option ClientTask
task_of (Exchange client) now draw = Some (Begin now draw)
task_of (Ask client request) now draw = if request.code.0 == 0 then None else Some (Asks (record { at = now; draw = draw; request = request }))
task_of other now draw = None

-- the client of this number does it, if it is anything
abbrev pub deed_of : ℕ → Option ClientTask → Deed
deed_of number None = Nothing
deed_of number (Some task) = OfClient number task

module _ {P : Type 0} (net : Network P) where
  -- beside its turns a node hands these datagrams to its port, each to a socket
  pub record HandsOver (out : List Datagram) (old new : PacedPort P) : Type 0 where
    pub handed : net.sent new.port ≡ grown (net.sent old.port) (map (posted net.sockets) out)
    pub received : net.received new.port ≡ net.received old.port
    pub pace : new.pace ≡ old.pace

  -- the client of this number did what the line says, at the next moment and with the next draw
  pub record Begins (asked : Line) (number : ℕ) (old new : LiveLab P) : Type 0 where
    pub now : Moment
    pub draw : Draw
    pub gives : Gives old.supply now draw new.supply
    pub goes : Goes (deed_of number (task_of asked now draw)) old.lab new.lab
    pub port : PacedPort P
    pub there : slice_get old.ports.clients number ≡ Some port
    pub after : PacedPort P
    pub hands : HandsOver (out_of goes.taken) port after
    pub ports : new.ports ≡ with_port old.ports (whose.Client number) after

  -- it did, if there is one
  pub data LineBegins (asked : Line) (number : ℕ) (old new : LiveLab P) : Type 0 where
    nobody : slice_get old.lab.nodes.clients number ≡ None → new ≡ old → LineBegins asked number old new
    begins : Begins asked number old new → LineBegins asked number old new

  -- ---- any steps

  -- some number of steps, maybe none, leads from the one to the other: turns of nodes, and what lines have their clients do
  pub data Leads (first : LiveLab P) : LiveLab P → Type 0 where
    stays : Leads first first
    then_turn : (who : Whose) (busy : Bool) (between last : LiveLab P) → Leads first between → Turn net who busy between last → Leads first last
    then_line : (asked : Line) (number : ℕ) (between last : LiveLab P) → Leads first between → LineBegins asked number between last → Leads first last

  -- what all ports were asked to send
  pub record AllSent : Type 0 where
    pub server : Option (List Datagram)
    pub clients : List (Option (List Datagram))
    pub proxies : List (Option (List Datagram))

  abbrev pub sent_by : Ports P → AllSent
  sent_by ports = record {
    server = net.sent ports.server.port;
    clients = map (λ port. net.sent port.port) ports.clients;
    proxies = map (λ port. net.sent port.port) ports.proxies;
  }

  -- nobody took a step, and nothing was sent
  pub record Halts (old new : LiveLab P) : Type 0 where
    pub lab : new.lab ≡ old.lab
    pub sent : sent_by new.ports ≡ sent_by old.ports
