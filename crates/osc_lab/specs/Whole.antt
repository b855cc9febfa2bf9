-- What the whole of `osc lab` does: the nodes of a script take their turns, one after another, and each result that a client learns is told as it comes.
use Rattle.std.specs.Option.{IfSome}
use Rattle.std.specs.Prelude.{◌≡◌, ℕ, Bool, true, List, [], ◌∷◌, ◌++◌, Option, None, map, replicate, if◌then◌else◌}
use Rattle.std.specs.List.{list_all}
use Rattle.std.specs.Io.KnownBytes.{Appends}
use Rattle.osc_model.specs.declared.node.Peer.{Peer}
use Rattle.osc_model.specs.declared.step.Datagram.{Datagram}
use Rattle.osc_script.specs.{IsScript, address_of, local}
use Rattle.osc_script.specs.declared.line.Line.{Line}
use Rattle.osc_script.specs.declared.node.NodeName.TheVariants as node
use Rattle.osc_simulation.specs.{IsStartOf}
use Rattle.osc_turn.specs.{IsOfSeed, IsSeeded, Received}
use Rattle.osc_world.specs.{AreParts, Beginning, NodeStates}
use Rattle.osc_world.specs.declared.start.Parts.{Parts}
use Rattle.osc_programs.specs.{IsFault}
use Rattle.osc_programs.specs.declared.ended.Ended.{Ended}
use Rattle.osc_lab.specs.Usage.{is_used}
use Rattle.osc_lab.specs.Lab.{lab_in}
use Rattle.osc_lab.specs.Network.{Network, Ports}
use Rattle.osc_lab.specs.Telling.{BreaksOff, EndsWith, Prints}
use Rattle.osc_lab.specs.Turning.{LiveLab}
use Rattle.osc_lab.specs.declared.port.Known.{Known}
use Rattle.osc_lab.specs.declared.ports.PacedPort.{PacedPort}

-- ---- where the nodes are at first

-- [::1] and a port (RFC 4291 section 2.5.3)
abbrev pub local_v6 : ℕ → Peer
local_v6 port = record { address = replicate 15 0 ++ 1 ∷ []; scope = 0; port = port }

-- the address of this machine, of IPv6 or IPv4, whose port the system picks
abbrev pub any_place : Bool → Peer
any_place ipv6 = if ipv6 then local_v6 0 else local 0

-- What opens ports opened them so, and its ports listen there.
module _ {P : Type 0} (opened : P → Type 0) (listens : P → Peer → Type 0) where
  -- a port of this machine, at which the node listens, and the node hasn't taken a turn at it
  pub record IsAt (known : Known) (port : PacedPort P) : Type 0 where
    pub is_open : opened port.port
    pub listening : listens port.port known.socket
    pub rests : port.pace.busy_since ≡ None

  -- each of these
  abbrev pub AreAt : List Known → List (PacedPort P) → Type 0
  AreAt [] [] = Unit {0}
  AreAt [] (port ∷ ports) = ⊥
  AreAt (known ∷ all) [] = ⊥
  AreAt (known ∷ all) (port ∷ ports) = IsAt known port × AreAt all ports

  -- Each node has a port of its own, and its socket is known under its address in the script.
  pub record BeginsAt (nodes : NodeStates) (sockets : List Known) (ports : Ports P) : Type 0 where
    pub server : Known
    pub proxies : List Known
    pub clients : List Known
    pub is : sockets ≡ server ∷ (proxies ++ clients)
    pub named_server : server.script ≡ address_of node.Server
    pub named_proxies : map (λ known. known.script) proxies ≡ map (λ placed. placed.at) nodes.proxies
    pub named_clients : map (λ known. known.script) clients ≡ map (λ placed. placed.at) nodes.clients
    pub server_at : IsAt server ports.server
    pub proxies_at : AreAt proxies ports.proxies
    pub clients_at : AreAt clients ports.clients

-- The system gave these seeds, opened these ports, and they tell this.
module _ {P : Type 0} (gave : List ℕ → Type 0) (opened : P → Type 0) (listens : P → Peer → Type 0) (received : P → Option (List (Option Received))) (sent : P → Option (List Datagram)) where
  -- the nodes that the lines of a script set up, as a simulation's, each at its port, and a seed of the system
  pub record IsFirst (lines : List Line) (sockets : List Known) (first : LiveLab P) : Type 0 where
    pub start : Beginning
    pub starts : IsStartOf lines start
    pub parts : Parts
    pub are : AreParts start parts
    pub lab : first.lab ≡ lab_in parts
    pub ports : BeginsAt opened listens parts.nodes sockets first.ports
    pub seeded : IsSeeded first.supply
    pub seed : IsOfSeed gave first.supply.generator

  abbrev pub network : List Known → Network P
  network sockets = record { received = received; sent = sent; sockets = sockets }

  -- the lab of these lines printed this
  pub record LinesPrint (turns : ℕ) (lines : List Line) (text : List ℕ) : Type 0 where
    pub sockets : List Known
    pub first : LiveLab P
    pub last : LiveLab P
    pub is_first : IsFirst lines sockets first
    pub prints : Prints (network sockets) turns lines first text last

  -- it ended early, by a fault: before its nodes took a step, with nothing written, or in its lines
  pub data LinesStop (ended : Ended) (turns : ℕ) (lines : List Line) (written written_after : Option (List ℕ)) : Type 0 where
    unbegun : IsFault ended → Appends written written_after [] → LinesStop ended turns lines written written_after
    in_lines : (sockets : List Known) (first last : LiveLab P) → IsFirst lines sockets first
        → EndsWith (λ text. BreaksOff (network sockets) turns lines first text last) ended written written_after
        → LinesStop ended turns lines written written_after

  -- The lab of this script, of whose lines it uses each, with at most this number of whole turns after each line that has a client do something, printed
  -- this.
  abbrev pub Labs : ℕ → List ℕ → List ℕ → Type 0
  Labs turns script text = (lines : List Line) × IsScript script lines × (list_all is_used lines ≡ true) × LinesPrint turns lines text

  -- It ended early: it had no script, and nothing was written, or it ended in its lines, each of which it uses, by a fault.
  pub data EndsEarly (ended : Ended) (turns : ℕ) (script : Option (List ℕ)) (written written_after : Option (List ℕ)) : Type 0 where
    no_script : Appends written written_after [] → EndsEarly ended turns script written written_after
    in_script : (lines : List Line) → IfSome script (λ text. IsScript text lines × (list_all is_used lines ≡ true))
        → LinesStop ended turns lines written written_after → EndsEarly ended turns script written written_after
