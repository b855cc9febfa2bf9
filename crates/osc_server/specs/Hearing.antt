-- The steps of a server: a datagram comes to it, or the time for what is due.
use Rattle.std.specs.Prelude.{◌≡◌, ℕ, List, []}
use Rattle.osc_model.specs.Arrival.{Arrival}
use Rattle.osc_model.specs.{sends}
use Rattle.osc_model.specs.declared.node.Moment.{Moment}
use Rattle.osc_model.specs.declared.step.Step.{Step}
use Rattle.osc_message.specs.{after_tick, heard, Receives, AreSendable}
use Rattle.osc_message.specs.declared.received.Received.{Received}
use Rattle.osc_ccm.specs.{Sealings}
use Rattle.osc_server.specs.State.{State}
use Rattle.osc_server.specs.Table.{Answers}
use Rattle.osc_server.specs.Told.{AreTold}

-- nothing of what it sends is ever due again, and the notes go whose lifetime has ended
pub record Ticks (old : State) (now : Moment) (step : Step) (new : State) : Type 0 where
  pub sent : step ≡ sends []
  pub kept : new ≡ record old { endpoint = after_tick now old.endpoint }

-- `is_sealing algorithm` is the relation of the algorithm's cipher
module _ (is_sealing : Sealings) where
  -- this datagram comes: what its bytes are received as, what the table makes of what is heard, what the notes tell of the datagrams,
  -- and that what is sent can be
  pub record Hears (old : State) (came : Arrival (List ℕ)) (step : Step) (new : State) : Type 0 where
    pub received : Received
    pub receives : Receives came.what received
    pub answers : Answers is_sealing old came (heard old.endpoint.seen came.at came.from received) step new
    pub told : AreTold is_sealing old came step
    pub fits : AreSendable step.out
