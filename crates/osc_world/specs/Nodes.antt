-- The nodes of a world, and what an event leads to.
use Rattle.std.specs.Prelude.{ℕ, ◌==◌, nat_le, if◌then◌else◌, Bool, List, ◌∷◌, ◌++◌, map, Option, Some, None, position, slice_get, slice_set}
use Rattle.std.specs.List.{IsDistinct, list_any}
use Rattle.osc_model.specs.declared.node.Draw.{Draw}
use Rattle.osc_model.specs.declared.node.Moment.{Moment}
use Rattle.osc_model.specs.declared.node.Peer.{Peer}
use Rattle.osc_context.specs.{greatest_number}
use Rattle.osc_model.specs.{same_peer}
use Rattle.osc_run.specs.{Cause, Came, Due}
use Rattle.osc_run.specs.declared.noted.Actor.{Actor}
use Rattle.osc_run.specs.declared.noted.Actor.TheVariants as actor
use Rattle.osc_client.specs.{Asked, skipped_to}
use Rattle.osc_client.specs.State.{State as Client}
use Rattle.osc_server.specs.State.{State as Server}
use Rattle.osc_proxy.specs.State.{State as Proxy}
use Rattle.osc_world.specs.Adversary.{Lie}
use Rattle.osc_world.specs.declared.event.Event.{Event}
use Rattle.osc_world.specs.declared.event.What.{What}
use Rattle.osc_world.specs.declared.event.What.TheVariants as what
use Rattle.osc_world.specs.declared.log.SentDatagram.{SentDatagram}
use Rattle.osc_world.specs.declared.nodes.Placed.{Placed}
use Rattle.osc_world.specs.declared.nodes.Whose.{Whose}
use Rattle.osc_world.specs.declared.nodes.Whose.TheVariants as whose

-- the server, where it is, and the clients and the proxies, each with where it is
pub record NodeStates : Type 0 where
  pub server_at : Peer
  pub server : Server
  pub clients : List (Placed Client)
  pub proxies : List (Placed Proxy)

-- ---- where they are

-- the address of the server, those of the clients, and those of the proxies
abbrev pub places : Peer → List (Placed Client) → List (Placed Proxy) → List Peer
places server_at clients proxies = server_at ∷ (map (λ placed. placed.at) clients ++ map (λ placed. placed.at) proxies)

-- whether this address is one of those
abbrev pub is_among : Peer → List Peer → Bool
is_among at places = list_any (λ place. same_peer place at) places

-- no two of the nodes are at one address
abbrev pub StandApart : NodeStates → Type 0
StandApart nodes = IsDistinct same_peer (places nodes.server_at nodes.clients nodes.proxies)

-- ---- who is where

-- the client of this number, if one was found, or else the proxy of that number
abbrev pub found : Option ℕ → Option ℕ → Whose
found None None = whose.Nobody
found None (Some number) = whose.Proxy number
found (Some number) proxy = whose.Client number

-- the first of these that applies there, by its number
abbrev pub number_at : {S : Type 0} → List (Placed S) → Peer → Option ℕ
number_at all at = position (λ placed. same_peer placed.at at) all

-- who is there: the server, or the first client that does, or the first proxy
abbrev pub node_at : NodeStates → Peer → Whose
node_at nodes at = if same_peer nodes.server_at at then whose.Server else found (number_at nodes.clients at) (number_at nodes.proxies at)

-- the node of this name
abbrev pub node_of : Actor → Whose
node_of actor.Server = whose.Server
node_of (actor.Client number) = whose.Client number
node_of (actor.Proxy number) = whose.Proxy number

-- ---- what an event leads to

-- what any node may do: take a step for what came or what is due, or start again
pub data Task : Type 0 where
  Take : Cause → Task
  StartAgain : Task

-- what a client may do besides: begin an exchange, ask a request, or seal what its holder likes
pub data ClientTask : Type 0 where
  Begin : Moment → Draw → ClientTask
  Ask : Asked → ClientTask
  TellLie : Lie → Draw → ClientTask
  Do : Task → ClientTask

-- who does what: a client, or a proxy, is there by its number, or nobody does anything
pub data Deed : Type 0 where
  Nothing : Deed
  OfServer : Task → Deed
  OfClient : ℕ → ClientTask → Deed
  OfProxy : ℕ → Task → Deed

-- this task, of the node that it is for
abbrev pub deed_by : Whose → Task → Deed
deed_by whose.Server task = OfServer task
deed_by (whose.Client number) task = OfClient number (Do task)
deed_by (whose.Proxy number) task = OfProxy number task
deed_by whose.Nobody task = Nothing

-- bytes that come from an address are for whom is where they come to
abbrev pub arriving : NodeStates → Event → Peer → Peer → List ℕ → Deed
arriving nodes event from to bytes =
    deed_by (node_at nodes to) (Take (Came (record { at = event.moment; from = from; draw = event.draw; what = bytes })))

-- a datagram that was sent comes to whom it was sent to; what was never sent doesn't come
abbrev pub delivering : NodeStates → Event → Option SentDatagram → Deed
delivering nodes event None = Nothing
delivering nodes event (Some datagram) = arriving nodes event datagram.from datagram.to datagram.bytes

-- A request with the code 0.00 is no request, and a number that no seal may have is no lie.
abbrev pub deed_for : NodeStates → List SentDatagram → Event → What → Deed
deed_for nodes sent event (what.Exchange client) = OfClient client (Begin event.moment event.draw)
deed_for nodes sent event (what.Ask client request) =
    if request.code.0 == 0 then Nothing
    else OfClient client (Ask (record { at = event.moment; draw = event.draw; request = request }))
deed_for nodes sent event (what.Lie client number text) =
    if nat_le number greatest_number then OfClient client (TellLie (record { number = number; text = text }) event.draw) else Nothing
deed_for nodes sent event (what.Tick node) = deed_by (node_of node) (Take (Due event.moment event.draw))
deed_for nodes sent event (what.Restart node) = deed_by (node_of node) StartAgain
deed_for nodes sent event (what.Deliver datagram) = delivering nodes event (slice_get sent datagram)
deed_for nodes sent event (what.Inject from to bytes) = arriving nodes event from to bytes

abbrev pub deed_of : NodeStates → List SentDatagram → Event → Deed
deed_of nodes sent event = deed_for nodes sent event event.what

-- ---- between events

-- the next number of this client is raised, if it is there
abbrev pub skipped_at : ℕ → ℕ → NodeStates → Option (Placed Client) → NodeStates
skipped_at client number nodes None = nodes
skipped_at client number nodes (Some placed) =
    record nodes { clients = slice_set nodes.clients client (record placed { node = skipped_to number placed.node }) }

abbrev pub skipped : ℕ → ℕ → NodeStates → NodeStates
skipped client number nodes = skipped_at client number nodes (slice_get nodes.clients client)
