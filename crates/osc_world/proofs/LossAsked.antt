-- A client asks, straight to the server, in a world that is ready for it: whatever happens then of what may comes to what is promised of it.
use Rattle.std.proofs.Common.{◌≡◌, ◌≢◌, ◌∙◌, ap, sym, subst, refl, append-nil, ℕ, true, false, ◌≤◌, ◌<◌, List, [], ◌∷◌, ◌++◌, length, map, Option, Some, None, inl, inr, arith}
use Rattle.std.specs.Prelude.{◌⊎◌, ◌==◌, slice_get, slice_set}
use Rattle.std.specs.List.{AllByRecursion}
use Rattle.std.specs.Option.{option_to_list}
use Rattle.std.proofs.lemmas.Bool.{ne_eqb}
use Rattle.std.proofs.lemmas.Option.{same_Some, slice_get_within}
use Rattle.osc_model.specs.{same_peer}
use Rattle.osc_model.specs.Refusals as refusal
use Rattle.osc_model.specs.declared.node.Moment.{Moment}
use Rattle.osc_model.specs.declared.node.Peer.{Peer}
use Rattle.osc_model.specs.declared.step.ClientResult.{ClientResult}
use Rattle.osc_model.specs.declared.step.ClientResult.TheVariants as result
use Rattle.osc_model.specs.declared.step.Datagram.{Datagram}
use Rattle.osc_model.specs.declared.step.Entry.{Entry}
use Rattle.osc_model.specs.declared.step.Step.{Step}
use Rattle.osc_message.specs.{datagram}
use Rattle.osc_protect.specs.{longest_message, request_length}
use Rattle.osc_authz.specs.{ClientContextState, In}
use Rattle.osc_authz.specs.SecurityContext.{SecurityContext}
use Rattle.osc_ccm.specs.{Sealings, Tags}
use Rattle.osc_run.specs.{Noted, by_client, history}
use Rattle.osc_client.specs.{IsLawfulClient, Asked, Asks, IsHindered, asks, busy, exhausted, hindered, plain_of, too_long}
use Rattle.osc_client.specs.Sending.{no_context}
use Rattle.osc_client.specs.State.{State as Client}
use Rattle.osc_server.specs.State.{State as Server}
use Rattle.osc_rounds.specs.{Ends, IsAskedOverLoss, IsLawfulServer, IsStraight, MayAsk, StraightRequest, asked_text, entries_of}
use Rattle.osc_world.specs.{AreLawfulClients, Ask, ClientDoes, Deed, Happen, Happens, NodeStates, OfClient, StandApart, State, Takes, asking, deed_of, sent_by, sent_from, steps_with}
use Rattle.osc_world.specs.Loss.{AreEnds, AreOfRound, GoesOverLoss, HasGoneOverLoss, IsFrom, IsOfEnds, IsReadyFor, StraightAsk, a_request, noted_with, route_from, way_from}
use Rattle.osc_world.specs.declared.event.Event.{Event}
use Rattle.osc_world.specs.declared.log.SentDatagram.{SentDatagram}
use Rattle.osc_world.specs.declared.nodes.Placed.{Placed}
use Rattle.osc_world.specs.declared.nodes.StepTaken.{StepTaken}
use Rattle.osc_world.proofs.Apart.{apart_after}
use Rattle.osc_world.proofs.LossWorld.{IsLossyRound, in_either, in_sent, in_to, lossy_round, served_in}
use Rattle.osc_world.proofs.Slots.{got_back}
use Rattle.osc_world.proofs.Taking.{ItTakes, it_takes}

-- what osc_rounds says of a request that goes straight to the server
abbrev pub OverLoss : Sealings → Tags → Type 0
OverLoss is_sealing tag =
    (client asked : Client) (server : Server) (asks : Asked) (now : Moment) (at server_at : Peer) (context : ClientContextState) (held : SecurityContext) (first : Step)
    → IsLawfulServer server → IsLawfulClient client
    → IsStraight client server now asks.draw at server_at → MayAsk client server now context held
    → first.notes.result ≢ Some (result.Refused refusal.datagram_too_long)
    → Asks is_sealing tag client asks first asked
    → IsAskedOverLoss is_sealing (record {
      asked = asked;
      server = server;
      at = at;
      server_at = server_at;
      now = now;
      held = held;
      number = context.next;
      text = asked_text client asks.draw asks.request;
    }) client asks first

-- what fits a datagram isn't refused as too long
module _ (is_sealing : Sealings) (tag : Tags) (old new : Client) (what : Asked) (context : ClientContextState) (step : Step)
    (has : old.context ≡ Some context) (fits : request_length tag context.name context.next (plain_of old what.draw what.request) ≤ longest_message) where
  told_so : (number : ℕ) → Some (result.Refused number) ≡ Some (result.Refused refusal.datagram_too_long) → number ≡ refusal.datagram_too_long
  told_so number e = cc

  no_other : (number : ℕ) → IsHindered is_sealing tag old what.request what.draw number → number ≢ refusal.datagram_too_long
  no_other number (busy is waits) long = omega (arith, is, long)
  no_other number (no_context is idle none) long = omega (arith, is, long)
  no_other number (exhausted is other idle found above) long = omega (arith, is, long)
  no_other number (too_long is other idle found lawful unfit) long =
      let same : context ≡ other = same_Some context other (sym has ∙ found) in
      let so : request_length tag other.name other.next (plain_of old what.draw what.request) ≤ longest_message =
      subst (λ (k : ClientContextState). request_length tag k.name k.next (plain_of old what.draw what.request) ≤ longest_message) same fits in
      omega (arith, so, unfit)

  pub not_too_long : Asks is_sealing tag old what step new → step.notes.result ≢ Some (result.Refused refusal.datagram_too_long)
  not_too_long (hindered number hinders refused) long =
      no_other number hinders (told_so number (ap (λ (s : Step). s.notes.result) (sym refused.told) ∙ long))
  not_too_long (asks other message free made spelled told kept) long =
      let wrong : None ≡ Some (result.Refused refusal.datagram_too_long) = ap (λ (s : Step). s.notes.result) (sym told) ∙ long in cc

module _ (is_sealing : Sealings) (tag : Tags) (itself : (a : Peer) → same_peer a a ≡ true) (law : OverLoss is_sealing tag)
    (begun : State) (ask : StraightAsk) (ready : IsReadyFor tag begun ask)
    (lawful : IsLawfulServer begun.nodes.server) (lawful_client : IsLawfulClient ask.placed.node) (apart : StandApart begun.nodes)
    (next : State) (happens : Happens is_sealing tag begun (asking ask.client ask.what) next) where
  took : Takes is_sealing tag begun.nodes (OfClient ask.client (Ask ask.what)) happens.taken happens.nodes
  took =
      let some : (ask.what.request.code.0 == 0) ≡ false = ne_eqb ask.what.request.code.0 0 (λ none. omega (arith, none, ready.code)) in
      let deed_is : deed_of begun.nodes begun.sent (asking ask.client ask.what) ≡ OfClient ask.client (Ask ask.what) = rw some refl in
      subst (λ (deed : Deed). Takes is_sealing tag begun.nodes deed happens.taken happens.nodes) deed_is happens.takes

  abbrev its : ItTakes (ClientDoes is_sealing tag (Ask ask.what)) (by_client ask.client false) begun.nodes.clients ask.client happens.taken took.0 ask.placed
  its = it_takes (ClientDoes is_sealing tag (Ask ask.what)) (by_client ask.client false) begun.nodes.clients ask.client happens.taken took.0 ask.placed ready.here took.1

  abbrev asked : Client
  asked = its.node

  abbrev first : Step
  first = its.step

  abbrev way : StraightRequest
  way = way_from begun ask asked

  nodes_are : next.nodes ≡ record begun.nodes { clients = slice_set begun.nodes.clients ask.client (record ask.placed { node = asked }) }
  nodes_are =
      ap (λ (w : State). w.nodes) happens.is ∙ took.2 ∙ ap (λ (clients : List (Placed Client)). record begun.nodes { clients = clients }) its.is

  abbrev placed_after : Placed Client
  placed_after = record ask.placed { node = asked }

  there : slice_get next.nodes.clients ask.client ≡ Some placed_after
  there = ap (λ (n : NodeStates). slice_get n.clients ask.client) nodes_are ∙ got_back begun.nodes.clients ask.client ask.placed placed_after ready.here

  steps_are : next.steps ≡ by_client ask.client false first.notes ∷ begun.steps
  steps_are = ap (λ (w : State). w.steps) happens.is ∙ ap (λ (t : Option StepTaken). steps_with t begun.steps) its.taken_is

  sent_is : next.sent ≡ begun.sent ++ map (sent_from ask.placed.at) first.out
  sent_is = ap (λ (w : State). w.sent) happens.is ∙ ap (λ (t : Option StepTaken). begun.sent ++ sent_by t) its.taken_is

  apart_next : StandApart next.nodes
  apart_next =
      subst StandApart (ap (λ (n : NodeStates). n) (sym (ap (λ (w : State). w.nodes) happens.is)))
      (apart_after is_sealing tag begun.nodes happens.nodes (deed_of begun.nodes begun.sent (asking ask.client ask.what)) happens.taken happens.takes apart)

  promise : IsAskedOverLoss is_sealing way ask.placed.node ask.what first
  promise =
      law ask.placed.node asked begun.nodes.server ask.what ask.now ask.placed.at begun.nodes.server_at ask.context ask.held first lawful lawful_client
      ready.straight ready.may (not_too_long is_sealing tag ask.placed.node asked ask.what ask.context first ready.may.has ready.fits its.it_does.asks) its.it_does.asks

  abbrev start : Ends
  start = record { client = asked; server = begun.nodes.server; requests = first.out; replies = [] }

  to_server : (one : Datagram) → In one first.out → one.to ≡ begun.nodes.server_at
  to_server one here =
      in_to begun.nodes.server_at first.out one
      (subst (λ (all : List Datagram). AllByRecursion (λ sent. sent.to ≡ begun.nodes.server_at) all) (sym promise.out) (ready.straight.next_hop, tt)) here

  first_ends : AreEnds ask.client (length begun.sent) (route_from begun ask) next start
  first_ends = record {
    placed = placed_after;
    there = there;
    node = refl;
    at = refl;
    server = ap (λ (n : NodeStates). n.server) nodes_are;
    server_at = ap (λ (n : NodeStates). n.server_at) nodes_are;
    apart = apart_next;
    sent = λ number d after here.
        by number d after (in_either begun.sent (map (sent_from ask.placed.at) first.out) number d (subst (λ (all : List SentDatagram). slice_get all number ≡ Some d) sent_is here));
  }
    where
      by : (number : ℕ) (d : SentDatagram) → length begun.sent ≤ number
          → (slice_get begun.sent number ≡ Some d) ⊎ ((m : ℕ) × (slice_get (map (sent_from ask.placed.at) first.out) m ≡ Some d)) → IsOfEnds (route_from begun ask) start d
      by number d after (inl old) = let wrong : ⊥ = omega (arith, after, slice_get_within begun.sent number d old) in absurd wrong
      by number d after (inr new) =
          let one = in_sent ask.placed.at first.out new.0 d new.1 in
          a_request (record {
            one = one.0;
            here = one.1;
            bytes = ap (λ (s : SentDatagram). s.bytes) one.2;
            at_is = ap (λ (s : SentDatagram). s.from) one.2;
            to_is = ap (λ (s : SentDatagram). s.to) one.2 ∙ to_server one.0 one.1;
          })

  abbrev earlier : List Noted
  earlier = by_client ask.client false first.notes ∷ begun.steps

  unserved : first.notes.served ≡ None
  unserved = promise.unserved

  pub gone_over_loss : (later : List Event) (last : State) → AreOfRound begun ask later → Happen is_sealing tag next later last → HasGoneOverLoss begun ask last
  gone_over_loss later last of happen =
      let round : IsLossyRound is_sealing tag itself begun ask asked start earlier (λ all last within lives goes. (promise.goes all last within lives goes).addressed) last =
      lossy_round is_sealing tag itself begun ask asked start earlier (λ all last within lives goes. (promise.goes all last within lives goes).addressed)
      later next last [] start refl tt first_ends steps_are of happen in
      record {
        asked = asked;
        first = first;
        message = promise.message;
        out = promise.out ∙ ap (λ (to : Peer). datagram to promise.message ∷ []) ready.straight.next_hop;
        all = round.all;
        ends = round.ends;
        served = promise.goes round.all round.ends round.within round.lives round.goes;
        stands = round.stands;
        steps = round.steps;
        entries = ap history round.steps ∙ served_in ask.client round.all earlier
            ∙ ap (λ (served : Option Entry). (history begun.steps ++ option_to_list served) ++ entries_of round.all) unserved
            ∙ ap (λ (entries : List Entry). entries ++ entries_of round.all) (append-nil (history begun.steps));
      }

-- all of the events
pub goes_over_loss : (is_sealing : Sealings) (tag : Tags) (itself : (a : Peer) → same_peer a a ≡ true) (law : OverLoss is_sealing tag) (begun last : State) (events : List Event)
    → IsLawfulServer begun.nodes.server → AreLawfulClients begun.nodes.clients → StandApart begun.nodes
    → Happen is_sealing tag begun events last → GoesOverLoss tag begun events last
goes_over_loss is_sealing tag itself law begun last events lawful clients apart happen ask later ready are of =
    let it : Happen is_sealing tag begun (asking ask.client ask.what ∷ later) last = subst (λ (all : List Event). Happen is_sealing tag begun all last) are happen in
    gone_over_loss is_sealing tag itself law begun ask ready lawful (clients ask.client ask.placed ready.here) apart it.0 it.1 later last of it.2
