-- A client that hears something, begins an exchange or asks, reaches its server the same way; and its next message ID.
use Rattle.std.proofs.Common.{◌≡◌, ◌∙◌, sym, ap, refl, ℕ, ◌+◌, ◌%◌, Bool, true, false, List, [], ◌∷◌, Some}
use Rattle.osc_model.specs.{read_as}
use Rattle.osc_model.specs.Arrival.{Arrival}
use Rattle.osc_model.specs.declared.node.Draw.{Draw}
use Rattle.osc_model.specs.declared.node.Moment.{Moment}
use Rattle.osc_model.specs.declared.step.Datagram.{Datagram}
use Rattle.osc_model.specs.declared.step.Step.{Step}
use Rattle.osc_message.specs.{EndpointState, own_id, settled, heard}
use Rattle.osc_message.specs.declared.handling.Handling.TheVariants as handling
use Rattle.osc_coap.specs.Message.{Message}
use Rattle.osc_message.specs.declared.heard.Heard.{Heard}
use Rattle.osc_message.specs.declared.heard.Heard.TheVariants as heard_as
use Rattle.osc_ccm.specs.{Sealings, Tags}
use Rattle.osc_client.specs.{case_of, is_ended, Hears, Asked, Asks, Exchanges, asks, begins, busy, hindered, Answers, AnswersNew, Settles}
use Rattle.osc_client.specs.Sending as sending
use Rattle.osc_client.specs.State.{State as Client}
use Rattle.osc_client.specs.declared.case.ResponseCase.{ResponseCase}
use Rattle.osc_client.specs.declared.case.ResponseCase.TheVariants.{Refused, Unused, Counted}

abbrev pub SameWay : Client → Client → Type 0
SameWay old new = (new.next_hop ≡ old.next_hop) × (new.origin ≡ old.origin)

pub same_way : (old new other : Client) → new ≡ other → SameWay old other → SameWay old new
same_way old new other is same = (ap (λ (c : Client). c.next_hop) is ∙ same.0, ap (λ (c : Client). c.origin) is ∙ same.1)

settled_same : (ended : Bool) (old : Client) (endpoint : EndpointState) (step : Step) (new : Client) → Settles ended old endpoint step new → SameWay old new
settled_same false old endpoint step new it = same_way old new _ it.1 (refl, refl)
settled_same true old endpoint step new it = same_way old new _ it.1 (refl, refl)

-- what is settled takes no message ID
settled_id : (ended : Bool) (old : Client) (endpoint : EndpointState) (step : Step) (new : Client) → Settles ended old endpoint step new
    → new.endpoint.next_id ≡ endpoint.next_id
settled_id false old endpoint step new it = ap (λ (c : Client). c.endpoint.next_id) it.1
settled_id true old endpoint step new it = ap (λ (c : Client). c.endpoint.next_id) it.1

module _ (is_sealing : Sealings) where
  new_id : (case : ResponseCase) (old : Client) (came : Arrival Message) (step : Step) (new : Client)
      → AnswersNew is_sealing old came case step new → new.endpoint.next_id ≡ old.endpoint.next_id
  new_id Refused old came step new it = ap (λ (c : Client). c.endpoint.next_id) it.1
  new_id Unused old came step new it = ap (λ (c : Client). c.endpoint.next_id) it.1
  new_id Counted old came step new it = ap (λ (c : Client). c.endpoint.next_id) it.kept

  answers_id : (it : Heard) (old : Client) (came : Arrival (List ℕ)) (step : Step) (new : Client)
      → Answers is_sealing old came it step new → new.endpoint.next_id ≡ old.endpoint.next_id
  answers_id (heard_as.Alone out) old came step new it = ap (λ (c : Client). c.endpoint.next_id) it.1
  answers_id (heard_as.Empty kind id) old came step new it =
      settled_id (is_ended old.next_hop came.from kind id old.waiting) old
      (settled old.endpoint came.at came.from (heard_as.Empty kind id) handling.Dropped) step new it
  answers_id (heard_as.Message message) old came step new it =
      new_id (case_of old.next_hop came.from old.waiting message) old (read_as came message) step new it

  pub hears_id : (old : Client) (came : Arrival (List ℕ)) (step : Step) (new : Client)
      → Hears is_sealing old came step new → new.endpoint.next_id ≡ old.endpoint.next_id
  hears_id old came step new hears = answers_id (heard old.endpoint.seen came.at came.from hears.received) old came step new hears.answers

  new_same : (case : ResponseCase) (old : Client) (came : Arrival Message) (step : Step) (new : Client) → AnswersNew is_sealing old came case step new → SameWay old new
  new_same Refused old came step new it = same_way old new _ it.1 (refl, refl)
  new_same Unused old came step new it = same_way old new _ it.1 (refl, refl)
  new_same Counted old came step new it = same_way old new _ it.kept (refl, refl)

  answers_same : (it : Heard) (old : Client) (came : Arrival (List ℕ)) (step : Step) (new : Client) → Answers is_sealing old came it step new → SameWay old new
  answers_same (heard_as.Alone out) old came step new it = same_way old new _ it.1 (refl, refl)
  answers_same (heard_as.Empty kind id) old came step new it =
      settled_same (is_ended old.next_hop came.from kind id old.waiting) old
      (settled old.endpoint came.at came.from (heard_as.Empty kind id) handling.Dropped) step new it
  answers_same (heard_as.Message message) old came step new it =
      new_same (case_of old.next_hop came.from old.waiting message) old (read_as came message) step new it

  pub hears_same : (old : Client) (came : Arrival (List ℕ)) (step : Step) (new : Client) → Hears is_sealing old came step new → SameWay old new
  hears_same old came step new hears = answers_same (heard old.endpoint.seen came.at came.from hears.received) old came step new hears.answers

no_datagram : (one : Datagram) → [] ≡ one ∷ [] → ⊥
no_datagram one e = cc

-- what begins an exchange takes one
pub exchanges_id : (old : Client) (now : Moment) (draw : Draw) (step : Step) (new : Client) (one : Datagram) → Exchanges old now draw step new
    → step.out ≡ one ∷ [] → new.endpoint.next_id ≡ Some ((own_id draw old.endpoint.next_id + 1) % 65536)
exchanges_id old now draw step new one (busy waits refused) out = absurd (no_datagram one (sym (ap (λ (s : Step). s.out) refused.told) ∙ out))
exchanges_id old now draw step new one (sending.Exchanges.too_long idle long refused) out =
    absurd (no_datagram one (sym (ap (λ (s : Step). s.out) refused.told) ∙ out))
exchanges_id old now draw step new one (begins idle short spelled told kept) out = ap (λ (c : Client). c.endpoint.next_id) kept

pub exchanges_same : (old : Client) (now : Moment) (draw : Draw) (step : Step) (new : Client) → Exchanges old now draw step new → SameWay old new
exchanges_same old now draw step new (busy waits refused) = same_way old new _ refused.kept (refl, refl)
exchanges_same old now draw step new (sending.Exchanges.too_long idle long refused) = same_way old new _ refused.kept (refl, refl)
exchanges_same old now draw step new (begins idle short spelled told kept) = same_way old new _ kept (refl, refl)

-- and so with a request
module _ (is_sealing : Sealings) (tag : Tags) where
  pub asks_id : (old : Client) (asked : Asked) (step : Step) (new : Client) (one : Datagram) → Asks is_sealing tag old asked step new
      → step.out ≡ one ∷ [] → new.endpoint.next_id ≡ Some ((own_id asked.draw old.endpoint.next_id + 1) % 65536)
  asks_id old asked step new one (hindered number hinders refused) out = absurd (no_datagram one (sym (ap (λ (s : Step). s.out) refused.told) ∙ out))
  asks_id old asked step new one (asks made protected free is spells told kept) out = ap (λ (c : Client). c.endpoint.next_id) kept

  pub asks_same : (old : Client) (asked : Asked) (step : Step) (new : Client) → Asks is_sealing tag old asked step new → SameWay old new
  asks_same old asked step new (hindered number hinders refused) = same_way old new _ refused.kept (refl, refl)
  asks_same old asked step new (asks made protected free is spells told kept) = same_way old new _ kept (refl, refl)
