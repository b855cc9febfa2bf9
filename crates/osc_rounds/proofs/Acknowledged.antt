-- An empty acknowledgement that comes to a client.
use Rattle.std.proofs.Common.{◌≡◌, ap, subst, ℕ, ◌^◌, ◌<◌, ◌≤◌, List, [], length}
use Rattle.osc_model.specs.{read_as, sends}
use Rattle.osc_model.specs.Arrival.{Arrival}
use Rattle.osc_model.specs.declared.step.Step.{Step}
use Rattle.osc_coap.specs.{datagram_limit, HasSpelling, spelling}
use Rattle.osc_coap.specs.declared.kind.Kind.TheVariants.{Acknowledgement}
use Rattle.osc_message.specs.{heard, Receives, empty_acknowledgement}
use Rattle.osc_message.specs.declared.heard.Heard.{Heard}
use Rattle.osc_message.specs.declared.heard.Heard.TheVariants.{Empty}
use Rattle.osc_message.specs.declared.received.Received.{Received}
use Rattle.osc_message.specs.declared.received.Received.TheVariants as received
use Rattle.osc_ccm.specs.{Sealings}
use Rattle.osc_client.specs.{Hears as ClientHears, Answers as ClientAnswers}
use Rattle.osc_client.specs.State.{State as Client}
use Rattle.osc_rounds.proofs.Asking.{received_as}
use Rattle.osc_rounds.specs.Asked.{with_acknowledgement}

module _ (is_sealing : Sealings)
    (one_reception : (bytes : List ℕ) (a b : Received) → Receives bytes a → Receives bytes b → a ≡ b)
    (lawful : (id : ℕ) → id < 2 ^ 16 → HasSpelling (empty_acknowledgement id))
    (short : (id : ℕ) → length (spelling (empty_acknowledgement id)) ≤ datagram_limit) where
  pub acknowledgement_heard : (old new : Client) (came : Arrival ℕ) (step : Step) → came.what < 2 ^ 16
      → ClientHears is_sealing old (read_as came (spelling (empty_acknowledgement came.what))) step new
      → (step ≡ sends []) × (new ≡ record old { endpoint = with_acknowledgement came.from came.what old.endpoint })
  acknowledgement_heard old new came step few hears =
      let id = came.what in
      let as_it : hears.received ≡ received.Message (empty_acknowledgement id) =
      received_as one_reception (empty_acknowledgement id) hears.received (record { lawful = lawful id few; short = short id }) hears.receives in
      let heard_is : heard old.endpoint.seen came.at came.from hears.received ≡ Empty Acknowledgement id =
      ap (λ (r : Received). heard old.endpoint.seen came.at came.from r) as_it in
      subst (λ (h : Heard). ClientAnswers is_sealing old (read_as came (spelling (empty_acknowledgement id))) h step new) heard_is hears.answers
