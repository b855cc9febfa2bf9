-- What waits in a world, in order of sending, and the outcome of the delivery of the first.
use Rattle.std.specs.Prelude.{◌≡◌, ℕ, ◌+◌, false, List, ◌∷◌, ◌++◌, filter, length, map, slice_set}
use Rattle.osc_model.specs.Arrival.{Arrival}
use Rattle.osc_model.specs.StepNotes.{StepNotes}
use Rattle.osc_model.specs.declared.node.Draw.{Draw}
use Rattle.osc_model.specs.declared.node.Moment.{Moment}
use Rattle.osc_model.specs.declared.node.Peer.{Peer}
use Rattle.osc_model.specs.declared.step.Step.{Step}
use Rattle.osc_ccm.specs.{Sealings}
use Rattle.osc_run.specs.{Noted, by_client, by_proxy, by_server}
use Rattle.osc_server.specs.{Hears as ServerHears}
use Rattle.osc_server.specs.State.{State as Server}
use Rattle.osc_client.specs.{Hears as ClientHears}
use Rattle.osc_client.specs.State.{State as Client}
use Rattle.osc_proxy.specs.{Hears as ProxyHears}
use Rattle.osc_proxy.specs.State.{State as Proxy}
use Rattle.osc_world.specs.Log.{sent_from}
use Rattle.osc_world.specs.Nodes.{StandApart}
use Rattle.osc_world.specs.Worlds.{State}
use Rattle.osc_world.specs.declared.log.SentDatagram.{SentDatagram}
use Rattle.osc_world.specs.declared.nodes.Placed.{Placed}

-- the datagrams that were neither delivered nor dropped, in order of sending
abbrev pub queue : State → List SentDatagram
queue world = filter (λ datagram. datagram.waits) world.sent

-- when the first that waits is delivered, with which draw, and what waits after it
pub record Delivery : Type 0 where
  pub at : Moment
  pub draw : Draw
  pub first : SentDatagram
  pub later : List SentDatagram

-- what comes to its hearer
abbrev pub came_by : Delivery → Arrival (List ℕ)
came_by delivery = record { at = delivery.at; from = delivery.first.from; draw = delivery.draw; what = delivery.first.bytes }

-- The hearer, who is there, took this step: what it sends waits after the others, and no node moves.
pub record IsKeptOf (delivery : Delivery) (at : Peer) (noted : StepNotes → Noted) (old : State) (step : Step) (next : State) : Type 0 where
  pub waits : queue next ≡ delivery.later ++ map (sent_from at) step.out
  pub steps : next.steps ≡ noted step.notes ∷ old.steps
  pub records : length next.records ≡ length old.records + 1
  pub apart : StandApart next.nodes

-- a proxy, of this number, hears it
pub record IsHeardByProxy (number : ℕ) (placed : Placed Proxy) (delivery : Delivery) (old next : State) : Type 0 where
  pub step : Step
  pub proxy : Proxy
  pub hears : ProxyHears placed.node (came_by delivery) step proxy
  pub nodes : next.nodes ≡ record old.nodes { proxies = slice_set old.nodes.proxies number (record placed { node = proxy }) }
  pub kept : IsKeptOf delivery placed.at (by_proxy number) old step next

-- `is_sealing algorithm` is the relation of the algorithm's cipher
module _ (is_sealing : Sealings) where
  -- the server hears it
  pub record IsHeardByServer (delivery : Delivery) (old next : State) : Type 0 where
    pub step : Step
    pub server : Server
    pub hears : ServerHears is_sealing old.nodes.server (came_by delivery) step server
    pub nodes : next.nodes ≡ record old.nodes { server = server }
    pub kept : IsKeptOf delivery old.nodes.server_at by_server old step next

  -- a client, of this number, hears it
  pub record IsHeardByClient (number : ℕ) (placed : Placed Client) (delivery : Delivery) (old next : State) : Type 0 where
    pub step : Step
    pub client : Client
    pub hears : ClientHears is_sealing placed.node (came_by delivery) step client
    pub nodes : next.nodes ≡ record old.nodes { clients = slice_set old.nodes.clients number (record placed { node = client }) }
    pub kept : IsKeptOf delivery placed.at (by_client number false) old step next
