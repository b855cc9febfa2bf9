-- What a proxy does with a datagram: one definition for whoever is above it.
use Rattle.std.specs.Prelude.{◌≡◌, ℕ, List, Option}
use Rattle.osc_model.specs.Arrival.{Arrival}
use Rattle.osc_model.specs.{quiet}
use Rattle.osc_model.specs.declared.step.RefusedRequest.{RefusedRequest}
use Rattle.osc_model.specs.declared.step.Step.{Step}
use Rattle.osc_message.specs.{heard, Receives, AreSendable}
use Rattle.osc_message.specs.declared.received.Received.{Received}
use Rattle.osc_proxy.specs.State.{State}
use Rattle.osc_proxy.specs.Table.{Answers, IsAnswered}

-- These bytes came: they are answered as the table says, in datagrams of at most 1,152 bytes, and nothing is sealed or opened. At most
-- a request is refused.
pub record Hears (old : State) (came : Arrival (List ℕ)) (step : Step) (new : State) : Type 0 where
  pub received : Received
  pub receives : Receives came.what received
  pub answers : Answers old came (heard old.endpoint.seen came.at came.from received) step new
  pub refused : Option RefusedRequest
  pub silent : step.notes ≡ record quiet { refused = refused }
  pub fits : AreSendable step.out

-- They are something that may be answered: for anything else no memory is taken.
pub record MayBeAnswered (old : State) (came : Arrival (List ℕ)) : Type 0 where
  pub received : Received
  pub receives : Receives came.what received
  pub answered : IsAnswered old came.from (heard old.endpoint.seen came.at came.from received)
