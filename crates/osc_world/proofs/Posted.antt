-- An exchange is begun: what waits then, and what holds.
use Rattle.std.proofs.Common.{◌≡◌, ◌∙◌, ap, refl, ℕ, false, List, [], ◌∷◌, ◌++◌, map, Option, Some, None}
use Rattle.std.specs.Prelude.{◌≢◌, slice_set}
use Rattle.osc_model.specs.declared.node.Draw.{Draw}
use Rattle.osc_model.specs.declared.node.Moment.{Moment}
use Rattle.osc_model.specs.declared.step.ClientResult.TheVariants as result
use Rattle.osc_model.specs.declared.step.Step.{Step}
use Rattle.osc_message.specs.{datagram}
use Rattle.osc_ccm.specs.{Sealings, Tags}
use Rattle.osc_run.specs.{by_client}
use Rattle.osc_client.specs.{Exchanges, begins, busy, post_by}
use Rattle.osc_client.specs.Sending as sending
use Rattle.osc_client.specs.State.{State as Client}
use Rattle.osc_world.specs.{sent_by, sent_from, steps_with, Begin, OfClient, queue, Deliveries, BegunExchange, beginning, ClientDoes, Takes, State}
use Rattle.osc_world.specs.declared.log.SentDatagram.{SentDatagram}
use Rattle.osc_world.specs.declared.nodes.Placed.{Placed}
use Rattle.osc_world.specs.declared.nodes.StepTaken.{StepTaken}
use Rattle.osc_world.proofs.Deliveries.{at_rest, sent_behind}
use Rattle.osc_world.proofs.Taking.{ItTakes, it_takes}

module _ (is_sealing : Sealings) (tag : Tags) (deliveries : Deliveries) (count : ℕ) (begun : State) (it : BegunExchange is_sealing tag deliveries count begun) where
  -- the client's step, and what is so after it
  pub record IsPosted : Type 0 where
    pub step : Step
    pub client : Client
    pub exchanges : Exchanges it.placed.node it.at it.draw step client
    pub steps : begun.steps ≡ by_client it.client false step.notes ∷ it.before.steps
    pub nodes : begun.nodes ≡ record it.before.nodes { clients = slice_set it.before.nodes.clients it.client (record it.placed { node = client }) }
    pub waits : queue begun ≡ map (sent_from it.placed.at) step.out
    pub fits : step.notes.result ≢ Some (result.Refused 14)

  took : Takes is_sealing tag it.before.nodes (OfClient it.client (Begin it.at it.draw)) it.happens.taken it.happens.nodes
  took = it.happens.takes

  takes : ItTakes (ClientDoes is_sealing tag (Begin it.at it.draw)) (by_client it.client false) it.before.nodes.clients it.client it.happens.taken took.0 it.placed
  takes = it_takes (ClientDoes is_sealing tag (Begin it.at it.draw)) (by_client it.client false) it.before.nodes.clients it.client it.happens.taken took.0 it.placed it.ready.here took.1

  steps_are : begun.steps ≡ by_client it.client false takes.step.notes ∷ it.before.steps
  steps_are = ap (λ (w : State). w.steps) it.happens.is ∙ ap (λ (t : Option StepTaken). steps_with t it.before.steps) takes.taken_is

  pub is_posted : IsPosted
  is_posted = record {
    step = takes.step;
    client = takes.node;
    exchanges = takes.it_does.exchanges;
    steps = steps_are;
    nodes = ap (λ (w : State). w.nodes) it.happens.is ∙ took.2 ∙ ap (λ (clients : List (Placed Client)). record it.before.nodes { clients = clients }) takes.is;
    waits = sent_behind is_sealing tag it.before begun (beginning it.at it.draw it.client) it.happens refl
        ∙ ap (λ (all : List SentDatagram). all ++ sent_by it.happens.taken) (at_rest it.before it.ready.still)
        ∙ ap (λ (t : Option StepTaken). sent_by t) takes.taken_is;
    fits = it.fits (by_client it.client false takes.step.notes) steps_are;
  }

-- the post goes out in one datagram
pub post_goes_out : (old new : Client) (now : Moment) (draw : Draw) (step : Step) → old.waiting ≡ None → step.notes.result ≢ Some (result.Refused 14)
    → Exchanges old now draw step new → step.out ≡ datagram old.next_hop (post_by old draw) ∷ []
post_goes_out old new now draw step idle fits (busy waits refused) = absurd (waits idle)
post_goes_out old new now draw step idle fits (sending.Exchanges.too_long none long refused) = absurd (fits (ap (λ (s : Step). s.notes.result) refused.told))
post_goes_out old new now draw step idle fits (begins none short spelled told kept) = ap (λ (s : Step). s.out) told
