-- A request is asked: what waits then, and what holds.
use Rattle.std.proofs.Common.{◌≡◌, ◌∙◌, sym, ap, subst, refl, ℕ, ◌≤◌, false, List, [], ◌∷◌, ◌++◌, map, Option, Some, None, arith}
use Rattle.std.specs.Prelude.{◌≢◌, slice_get, slice_set, ◌==◌}
use Rattle.std.proofs.lemmas.Bool.{ne_eqb}
use Rattle.osc_model.specs.declared.step.ClientResult.TheVariants as result
use Rattle.osc_model.specs.declared.step.Step.{Step}
use Rattle.osc_coap.specs.Message.{Message}
use Rattle.osc_message.specs.{datagram}
use Rattle.osc_authz.specs.{ClientContextState}
use Rattle.osc_context.specs.{greatest_number}
use Rattle.osc_ccm.specs.{Sealings, Tags}
use Rattle.osc_run.specs.{by_client}
use Rattle.osc_client.specs.{IsLawfulClient, Asked, Asks, IsHindered, asks, hindered}
use Rattle.osc_client.specs.Sending as sending
use Rattle.osc_client.specs.State.{State as Client}
use Rattle.osc_world.specs.{AreLawfulClients, sent_by, sent_from, steps_with, Ask, Deed, NodeStates, OfClient, deed_of, queue, Deliveries, AskedRequest, asking, ClientDoes, Takes, State}
use Rattle.osc_world.specs.declared.log.SentDatagram.{SentDatagram}
use Rattle.osc_world.specs.declared.nodes.Placed.{Placed}
use Rattle.osc_world.specs.declared.nodes.StepTaken.{StepTaken}
use Rattle.osc_world.proofs.Deliveries.{at_rest, sent_behind}
use Rattle.osc_world.proofs.Slots.{got_back}
use Rattle.osc_world.proofs.Taking.{ItTakes, it_takes}

module _ (is_sealing : Sealings) (tag : Tags) where
  module _ (deliveries : Deliveries) (count : ℕ) (asked : State) (it : AskedRequest is_sealing tag deliveries count asked) where
    -- the client's step, and what is so after it
    pub record IsAsked : Type 0 where
      pub step : Step
      pub client : Client
      pub asks : Asks is_sealing tag it.placed.node it.what step client
      pub taken : it.happens.taken ≡ Some (record { at = it.placed.at; noted = by_client it.client false step.notes; out = step.out })
      pub steps : asked.steps ≡ by_client it.client false step.notes ∷ it.before.steps
      pub nodes : asked.nodes ≡ record it.before.nodes { clients = slice_set it.before.nodes.clients it.client (record it.placed { node = client }) }
      pub waits : queue asked ≡ map (sent_from it.placed.at) step.out
      pub fits : step.notes.result ≢ Some (result.Refused 14)

    took : Takes is_sealing tag it.before.nodes (OfClient it.client (Ask it.what)) it.happens.taken it.happens.nodes
    took =
        let some : (it.what.request.code.0 == 0) ≡ false = ne_eqb it.what.request.code.0 0 (λ none. omega (arith, none, it.code)) in
        let deed_is : deed_of it.before.nodes it.before.sent (asking it.client it.what) ≡ OfClient it.client (Ask it.what) = rw some refl in
        subst (λ (deed : Deed). Takes is_sealing tag it.before.nodes deed it.happens.taken it.happens.nodes) deed_is it.happens.takes

    takes : ItTakes (ClientDoes is_sealing tag (Ask it.what)) (by_client it.client false) it.before.nodes.clients it.client it.happens.taken took.0 it.placed
    takes = it_takes (ClientDoes is_sealing tag (Ask it.what)) (by_client it.client false) it.before.nodes.clients it.client it.happens.taken took.0 it.placed it.ready.here took.1

    steps_are : asked.steps ≡ by_client it.client false takes.step.notes ∷ it.before.steps
    steps_are = ap (λ (w : State). w.steps) it.happens.is ∙ ap (λ (t : Option StepTaken). steps_with t it.before.steps) takes.taken_is

    pub is_asked : IsAsked
    is_asked = record {
      step = takes.step;
      client = takes.node;
      asks = takes.it_does.asks;
      taken = takes.taken_is;
      steps = steps_are;
      nodes = ap (λ (w : State). w.nodes) it.happens.is ∙ took.2 ∙ ap (λ (clients : List (Placed Client)). record it.before.nodes { clients = clients }) takes.is;
      waits = sent_behind is_sealing tag it.before asked (asking it.client it.what) it.happens refl
          ∙ ap (λ (all : List SentDatagram). all ++ sent_by it.happens.taken) (at_rest it.before it.ready.still)
          ∙ ap (λ (t : Option StepTaken). sent_by t) takes.taken_is;
      fits = it.fits (by_client it.client false takes.step.notes) steps_are;
    }

  -- a request that nothing hinders goes out in one datagram
  pub one_goes_out : (old new : Client) (asked : Asked) (step : Step) (context : ClientContextState)
      → old.waiting ≡ None → old.context ≡ Some context → context.next ≤ greatest_number → step.notes.result ≢ Some (result.Refused 14)
      → Asks is_sealing tag old asked step new → (message : Message) × (step.out ≡ datagram old.next_hop message ∷ [])
  one_goes_out old new asked step context idle has few fits (asks made protected free is spells told kept) = (protected, ap (λ (s : Step). s.out) told)
  one_goes_out old new asked step context idle has few fits (hindered number hinders refused) = absurd (wrong hinders)
    where
      wrong : IsHindered is_sealing tag old asked.request asked.draw number → ⊥
      wrong (sending.IsHindered.busy e waits) = waits idle
      wrong (sending.IsHindered.no_context e waits none) = let it : None ≡ Some context = sym none ∙ has in cc
      wrong (sending.IsHindered.exhausted e made waits holds more) =
          let it : Some made ≡ Some context = sym holds ∙ has in
          let same : made ≡ context = cc in
          let next : made.next ≡ context.next = ap (λ (c : ClientContextState). c.next) same in
          omega (arith, more, few, next)
      wrong (sending.IsHindered.too_long e made waits holds least long) = fits (ap (λ (s : Step). s.notes.result) refused.told ∙ ap (λ (n : ℕ). Some (result.Refused n)) e)

-- the client that took a step is one of those
pub lawful_after : (number : ℕ) (placed : Placed Client) (client : Client) (old new : State) → slice_get old.nodes.clients number ≡ Some placed
    → new.nodes ≡ record old.nodes { clients = slice_set old.nodes.clients number (record placed { node = client }) } → AreLawfulClients new.nodes.clients
    → IsLawfulClient client
lawful_after number placed client old new here nodes lawful =
    let after : Placed Client = record placed { node = client } in
    lawful number after (ap (λ (n : NodeStates). slice_get n.clients number) nodes ∙ got_back old.nodes.clients number placed after here)
