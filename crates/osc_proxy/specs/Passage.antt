-- A request that goes through a proxy.
use Rattle.std.specs.Prelude.{ℕ}
use Rattle.osc_model.specs.Arrival.{Arrival}
use Rattle.osc_model.specs.declared.node.Peer.{Peer}
use Rattle.osc_coap.specs.Message.{Message}

-- the client's request as it came, to whom it goes on, and the key of its exchange
pub record Passage : Type 0 where
  pub came : Arrival Message
  pub to : Peer
  pub key : ℕ
