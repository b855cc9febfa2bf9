-- The steps of a client: a datagram comes to it, the time for what is due, or its holder begins something. Each says what the table
-- makes of it, what the notes tell of the datagrams, and that what is sent can be.
use Rattle.std.specs.Prelude.{ℕ, List, Some, None}
use Rattle.osc_model.specs.Arrival.{Arrival}
use Rattle.osc_model.specs.declared.node.Draw.{Draw}
use Rattle.osc_model.specs.declared.node.Moment.{Moment}
use Rattle.osc_model.specs.declared.step.Step.{Step}
use Rattle.osc_message.specs.{heard, Receives, AreSendable}
use Rattle.osc_message.specs.declared.received.Received.{Received}
use Rattle.osc_ccm.specs.{Sealings, Tags}
use Rattle.osc_client.specs.Sending.{Asked, Asks, Exchanges}
use Rattle.osc_client.specs.Sending as sending
use Rattle.osc_client.specs.State.{State}
use Rattle.osc_client.specs.Table.{Answers}
use Rattle.osc_client.specs.Told.{AreTold, SealsNothing}

-- what is due goes out, and what is over ends
pub record Ticks (old : State) (now : Moment) (step : Step) (new : State) : Type 0 where
  pub ticks : sending.Ticks old now step new
  pub told : SealsNothing old now step
  pub fits : AreSendable step.out

-- an exchange is begun, or refused
pub record Begins (old : State) (now : Moment) (draw : Draw) (step : Step) (new : State) : Type 0 where
  pub exchanges : Exchanges old now draw step new
  pub told : SealsNothing old now step
  pub fits : AreSendable step.out

-- `is_sealing algorithm` is the relation of the algorithm's cipher
module _ (is_sealing : Sealings) where
  -- these bytes come; no random bytes are used
  pub record Hears (old : State) (came : Arrival (List ℕ)) (step : Step) (new : State) : Type 0 where
    pub received : Received
    pub receives : Receives came.what received
    pub answers : Answers is_sealing old came (heard old.endpoint.seen came.at came.from received) step new
    pub told : AreTold is_sealing old came.at (Some came.what) step
    pub fits : AreSendable step.out

  -- a request is asked, or refused, where the cipher's tag is so long
  pub record Requests (tag : Tags) (old : State) (asked : Asked) (step : Step) (new : State) : Type 0 where
    pub asks : Asks is_sealing tag old asked step new
    pub told : AreTold is_sealing old asked.at None step
    pub fits : AreSendable step.out
