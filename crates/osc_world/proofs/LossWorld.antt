-- What happens in a world in a lossy round is what happens to its two ends.
use Rattle.std.proofs.Common.{append_assoc, append-nil, ◌≡◌, ◌∙◌, ap, sym, subst, refl, ℕ, zero, suc, ◌≤◌, Bool, true, false, if◌then◌else◌, List, [], ◌∷◌, ◌++◌, length, map, Option, Some, None, inl, inr}
use Rattle.std.specs.Prelude.{◌⊎◌, slice_get, slice_set}
use Rattle.std.specs.List.{AllByRecursion}
use Rattle.std.specs.Option.{option_to_list}
use Rattle.std.proofs.lemmas.Option.{same_Some}
use Rattle.osc_model.specs.StepNotes.{StepNotes}
use Rattle.osc_model.specs.declared.node.Draw.{Draw}
use Rattle.osc_model.specs.declared.node.Moment.{Moment}
use Rattle.osc_model.specs.declared.node.Peer.{Peer}
use Rattle.osc_model.specs.declared.step.Datagram.{Datagram}
use Rattle.osc_model.specs.declared.step.Entry.{Entry}
use Rattle.osc_model.specs.declared.step.Step.{Step}
use Rattle.osc_authz.specs.{In, IsLive}
use Rattle.osc_ccm.specs.{Sealings, Tags}
use Rattle.osc_run.specs.{Came, Due, Noted, by_client, by_server, history}
use Rattle.osc_server.specs.{standing_of, Hears as ServerHears}
use Rattle.osc_server.specs.Hearing.{Ticks as ServerTicks}
use Rattle.osc_server.specs.State.{State as Server}
use Rattle.osc_client.specs.{Hears as ClientHears, Ticks as ClientTicks}
use Rattle.osc_client.specs.State.{State as Client}
use Rattle.osc_rounds.specs.{AreAddressed, AreWithin, AtClient, AtServer, ClientTick, Ends, Event as RoundEvent, Goes, Happening, Happens as HappensToEnds, IsEventWithin, IsWithin, LivesAtFirst, LivesBy, Route, ServerTick, StraightRequest, entries_of}
use Rattle.osc_model.specs.{same_peer}
use Rattle.osc_server.specs.Steps as of_server
use Rattle.osc_world.specs.{Deed, Do, Happen, Happens, NodeStates, Nothing, OfClient, OfServer, ServerTakes, StandApart, State, Take, Takes, Task, ClientDoes, Does, deed_by, deed_for, deed_of, delivered, delivering, node_at, sent_by, sent_from, settled, settled_at, steps_with}
use Rattle.osc_world.specs.declared.event.Event.{Event}
use Rattle.osc_world.specs.declared.event.What.{What}
use Rattle.osc_world.specs.declared.event.What.TheVariants as what
use Rattle.osc_world.specs.declared.nodes.Placed.{Placed}
use Rattle.osc_world.specs.declared.nodes.StepTaken.{StepTaken}
use Rattle.osc_world.specs.declared.nodes.Whose.{Whose}
use Rattle.osc_world.specs.declared.nodes.Whose.TheVariants as whose
use Rattle.osc_run.specs.declared.noted.Actor.TheVariants as actor
use Rattle.osc_world.proofs.Apart.{apart_after, server_stands_there, stands_there}
use Rattle.osc_world.proofs.Slots.{got_back}
use Rattle.osc_world.proofs.Taking.{it_takes}
use Rattle.osc_world.specs.Loss.{AreEnds, AreOfRound, IsFrom, IsOfEnds, IsOfRound, StraightAsk, a_reply, a_request, noted_of, noted_with, route_from, way_from}
use Rattle.osc_world.specs.declared.log.SentDatagram.{SentDatagram}

-- ---- what was sent, after an event

-- the same datagram, whether it waits or not
pub record IsSame (a b : SentDatagram) : Type 0 where
  pub from : a.from ≡ b.from
  pub to : a.to ≡ b.to
  pub bytes : a.bytes ≡ b.bytes

pub in_either : (xs ys : List SentDatagram) (n : ℕ) (d : SentDatagram) → slice_get (xs ++ ys) n ≡ Some d
    → (slice_get xs n ≡ Some d) ⊎ ((m : ℕ) × (slice_get ys m ≡ Some d))
in_either [] ys n d e = inr (n, e)
in_either (x ∷ xs) ys zero d e = inl e
in_either (x ∷ xs) ys (suc n) d e = in_either xs ys n d e

set_is_same : (xs : List SentDatagram) (k n : ℕ) (x d : SentDatagram) → slice_get xs k ≡ Some x → slice_get (slice_set xs k (record x { waits = false })) n ≡ Some d
    → (was : SentDatagram) × (slice_get xs n ≡ Some was) × IsSame d was
set_is_same [] k n x d e f = let bad : None ≡ Some x = e in absurd (cc)
set_is_same (y ∷ xs) zero zero x d e f =
    let same : record x { waits = false } ≡ d = same_Some (record x { waits = false }) d f in (
      x,
      e,
      record {
        from = ap (λ (s : SentDatagram). s.from) (sym same);
        to = ap (λ (s : SentDatagram). s.to) (sym same);
        bytes = ap (λ (s : SentDatagram). s.bytes) (sym same);
      },
    )
set_is_same (y ∷ xs) zero (suc n) x d e f = (d, f, record { from = refl; to = refl; bytes = refl })
set_is_same (y ∷ xs) (suc k) zero x d e f = (d, f, record { from = refl; to = refl; bytes = refl })
set_is_same (y ∷ xs) (suc k) (suc n) x d e f = set_is_same xs k n x d e f

settled_is_same : (k : ℕ) (sent : List SentDatagram) (n : ℕ) (d : SentDatagram) → slice_get (settled k sent) n ≡ Some d
    → (was : SentDatagram) × (slice_get sent n ≡ Some was) × IsSame d was
settled_is_same k sent n d f = by (slice_get sent k) refl f
  where
    by : (found : Option SentDatagram) → slice_get sent k ≡ found → slice_get (settled_at k found sent) n ≡ Some d
        → (was : SentDatagram) × (slice_get sent n ≡ Some was) × IsSame d was
    by None e f = (d, f, record { from = refl; to = refl; bytes = refl })
    by (Some x) e f = set_is_same sent k n x d e f

pub in_sent : (at : Peer) (out : List Datagram) (m : ℕ) (d : SentDatagram) → slice_get (map (sent_from at) out) m ≡ Some d
    → (one : Datagram) × In one out × (d ≡ sent_from at one)
in_sent at [] m d e = let bad : None ≡ Some d = e in absurd (cc)
in_sent at (one ∷ out) zero d e = (one, inl refl, sym (same_Some (sent_from at one) d e))
in_sent at (one ∷ out) (suc m) d e = let rest = in_sent at out m d e in (rest.0, inr rest.1, rest.2)

in_more : (out all : List Datagram) (one : Datagram) → In one out → In one (out ++ all)
in_more [] all one here = absurd here
in_more (first ∷ out) all one (inl same) = inl same
in_more (first ∷ out) all one (inr here) = inr (in_more out all one here)

in_behind : (out all : List Datagram) (one : Datagram) → In one all → In one (out ++ all)
in_behind [] all one here = here
in_behind (first ∷ out) all one here = inr (in_behind out all one here)

pub in_to : (to : Peer) (all : List Datagram) (one : Datagram) → AllByRecursion (λ sent. sent.to ≡ to) all → In one all → one.to ≡ to
in_to to [] one are here = absurd here
in_to to (first ∷ all) one are (inl same) = ap (λ (d : Datagram). d.to) same ∙ are.0
in_to to (first ∷ all) one are (inr here) = in_to to all one are.1 here

delivered_is_same : (event : What) (sent : List SentDatagram) (n : ℕ) (d : SentDatagram) → slice_get (delivered event sent) n ≡ Some d
    → (was : SentDatagram) × (slice_get sent n ≡ Some was) × IsSame d was
delivered_is_same (what.Deliver k) sent n d e = settled_is_same k sent n d e
delivered_is_same event sent n d e = (d, e, record { from = refl; to = refl; bytes = refl })

-- in time for the server: within the lifetime of what it notes, and where a datagram comes, while the context lives
abbrev pub IsTimely : State → StraightAsk → RoundEvent → Type 0
IsTimely begun ask (ServerTick now) = IsWithin (route_from begun ask) now
IsTimely begun ask (AtServer now draw sent) = IsWithin (route_from begun ask) now × IsLive (standing_of begun.nodes.server now) ask.held
IsTimely begun ask event = Unit {0}

still_from : (at to : Peer) (all more : List Datagram) (d was : SentDatagram) → IsSame d was → ((one : Datagram) → In one all → In one more) → IsFrom at to all was → IsFrom at to more d
still_from at to all more d was same among it = record {
  one = it.one;
  here = among it.one it.here;
  bytes = same.bytes ∙ it.bytes;
  at_is = same.from ∙ it.at_is;
  to_is = same.to ∙ it.to_is;
}

module _ (is_sealing : Sealings) (tag : Tags) (itself : (a : Peer) → same_peer a a ≡ true) (begun : State) (ask : StraightAsk)
    (world next : State) (event : Event) (ends : Ends) (are : AreEnds ask.client (length begun.sent) (route_from begun ask) world ends)
    (happens : Happens is_sealing tag world event next) where
  abbrev client : ℕ
  client = ask.client

  abbrev base : ℕ
  base = length begun.sent

  abbrev route : Route
  route = route_from begun ask

  -- either nothing happens, or one of the ends takes a step
  pub data OneEvent : Type 0 where
    nothing : AreEnds client base route next ends → next.steps ≡ world.steps → OneEvent
    something : (what_is : RoundEvent) (step : Step) (new : Ends) → IsTimely begun ask what_is → HappensToEnds is_sealing route ends what_is step new
        → next.steps ≡ noted_of client what_is step ∷ world.steps → (AreAddressed route new → AreEnds client base route next new) → OneEvent

  nodes_after : next.nodes ≡ happens.nodes
  nodes_after = ap (λ (w : State). w.nodes) happens.is

  apart_next : StandApart next.nodes
  apart_next = subst StandApart (sym nodes_after) (apart_after is_sealing tag world.nodes happens.nodes (deed_of world.nodes world.sent event) happens.taken happens.takes are.apart)

  takes_as : (deed : Deed) → deed_of world.nodes world.sent event ≡ deed → Takes is_sealing tag world.nodes deed happens.taken happens.nodes
  takes_as deed is = subst (λ (d : Deed). Takes is_sealing tag world.nodes d happens.taken happens.nodes) is happens.takes

  sent_is : (taken : Option StepTaken) → happens.taken ≡ taken → next.sent ≡ delivered event.what world.sent ++ sent_by taken
  sent_is taken is = ap (λ (w : State). w.sent) happens.is ∙ ap (λ (t : Option StepTaken). delivered event.what world.sent ++ sent_by t) is

  steps_are : (taken : Option StepTaken) → happens.taken ≡ taken → next.steps ≡ steps_with taken world.steps
  steps_are taken is = ap (λ (w : State). w.steps) happens.is ∙ ap (λ (t : Option StepTaken). steps_with t world.steps) is

  -- of what was sent before
  before_it : (new : Ends) → ((one : Datagram) → In one ends.requests → In one new.requests) → ((one : Datagram) → In one ends.replies → In one new.replies)
      → (number : ℕ) (d : SentDatagram) → base ≤ number → slice_get (delivered event.what world.sent) number ≡ Some d → IsOfEnds route new d
  before_it new requests replies number d after here =
      let it = delivered_is_same event.what world.sent number d here in
      by it.0 it.2 (are.sent number it.0 after it.1)
    where
      by : (was : SentDatagram) → IsSame d was → IsOfEnds route ends was → IsOfEnds route new d
      by was same (a_request it) = a_request (still_from route.at route.server_at ends.requests new.requests d was same requests it)
      by was same (a_reply it) = a_reply (still_from route.server_at route.at ends.replies new.replies d was same replies it)

  -- ---- the client takes a step

  module _ (step : Step) (node : Client) (taken_is : happens.taken ≡ Some (record { at = are.placed.at; noted = by_client client false step.notes; out = step.out }))
      (nodes_is : happens.nodes ≡ record world.nodes { clients = slice_set world.nodes.clients client (record are.placed { node = node }) }) where
    abbrev client_new : Ends
    client_new = record ends { client = node; requests = step.out ++ ends.requests }

    client_sent : AreAddressed route client_new → (number : ℕ) (d : SentDatagram) → base ≤ number → slice_get next.sent number ≡ Some d → IsOfEnds route client_new d
    client_sent to number d after here =
        by (in_either (delivered event.what world.sent) (map (sent_from are.placed.at) step.out) number d
        (subst (λ (all : List SentDatagram). slice_get all number ≡ Some d) (sent_is _ taken_is) here))
      where
        by : (slice_get (delivered event.what world.sent) number ≡ Some d) ⊎ ((m : ℕ) × (slice_get (map (sent_from are.placed.at) step.out) m ≡ Some d)) → IsOfEnds route client_new d
        by (inl old) = before_it client_new (in_behind step.out ends.requests) (λ one here. here) number d after old
        by (inr new) =
            let it = in_sent are.placed.at step.out new.0 d new.1 in
            let among : In it.0 client_new.requests = in_more step.out ends.requests it.0 it.1 in
            a_request (record {
              one = it.0;
              here = among;
              bytes = ap (λ (s : SentDatagram). s.bytes) it.2;
              at_is = ap (λ (s : SentDatagram). s.from) it.2 ∙ are.at;
              to_is = ap (λ (s : SentDatagram). s.to) it.2 ∙ in_to route.server_at client_new.requests it.0 to.requests among;
            })

    client_stands : AreAddressed route client_new → AreEnds client base route next client_new
    client_stands to = record {
      placed = record are.placed { node = node };
      there = ap (λ (n : List (Placed Client)). slice_get n client) (ap (λ (w : State). w.nodes.clients) happens.is ∙ ap (λ (n : NodeStates). n.clients) nodes_is)
          ∙ got_back world.nodes.clients client are.placed (record are.placed { node = node }) are.there;
      node = refl;
      at = are.at;
      server = ap (λ (w : State). w.nodes.server) happens.is ∙ ap (λ (n : NodeStates). n.server) nodes_is ∙ are.server;
      server_at = ap (λ (w : State). w.nodes.server_at) happens.is ∙ ap (λ (n : NodeStates). n.server_at) nodes_is ∙ are.server_at;
      apart = apart_next;
      sent = client_sent to;
    }

  -- ---- the server takes a step

  module _ (step : Step) (server : Server) (taken_is : happens.taken ≡ Some (record { at = world.nodes.server_at; noted = by_server step.notes; out = step.out }))
      (nodes_is : happens.nodes ≡ record world.nodes { server = server }) where
    abbrev server_new : Ends
    server_new = record ends { server = server; replies = step.out ++ ends.replies }

    server_sent : AreAddressed route server_new → (number : ℕ) (d : SentDatagram) → base ≤ number → slice_get next.sent number ≡ Some d → IsOfEnds route server_new d
    server_sent to number d after here =
        by (in_either (delivered event.what world.sent) (map (sent_from world.nodes.server_at) step.out) number d
        (subst (λ (all : List SentDatagram). slice_get all number ≡ Some d) (sent_is _ taken_is) here))
      where
        by : (slice_get (delivered event.what world.sent) number ≡ Some d) ⊎ ((m : ℕ) × (slice_get (map (sent_from world.nodes.server_at) step.out) m ≡ Some d)) → IsOfEnds route server_new d
        by (inl old) = before_it server_new (λ one here. here) (in_behind step.out ends.replies) number d after old
        by (inr new) =
            let it = in_sent world.nodes.server_at step.out new.0 d new.1 in
            let among : In it.0 server_new.replies = in_more step.out ends.replies it.0 it.1 in
            a_reply (record {
              one = it.0;
              here = among;
              bytes = ap (λ (s : SentDatagram). s.bytes) it.2;
              at_is = ap (λ (s : SentDatagram). s.from) it.2 ∙ are.server_at;
              to_is = ap (λ (s : SentDatagram). s.to) it.2 ∙ in_to route.at server_new.replies it.0 to.replies among;
            })

    server_stands : AreAddressed route server_new → AreEnds client base route next server_new
    server_stands to = record {
      placed = are.placed;
      there = ap (λ (n : List (Placed Client)). slice_get n client) (ap (λ (w : State). w.nodes.clients) happens.is ∙ ap (λ (n : NodeStates). n.clients) nodes_is) ∙ are.there;
      node = are.node;
      at = are.at;
      server = ap (λ (w : State). w.nodes.server) happens.is ∙ ap (λ (n : NodeStates). n.server) nodes_is;
      server_at = ap (λ (w : State). w.nodes.server_at) happens.is ∙ ap (λ (n : NodeStates). n.server_at) nodes_is ∙ are.server_at;
      apart = apart_next;
      sent = server_sent to;
    }

  -- ---- by what happens

  client_ticks : event.what ≡ what.Tick (actor.Client client) → OneEvent
  client_ticks is =
      let task : Task = Take (Due event.moment event.draw) in
      let takes = takes_as (OfClient client (Do task)) (ap (deed_for world.nodes world.sent event) is) in
      let t = it_takes (ClientDoes is_sealing tag (Do task)) (by_client client false) world.nodes.clients client happens.taken takes.0 are.placed are.there takes.1 in
      let nodes_is : happens.nodes ≡ record world.nodes { clients = slice_set world.nodes.clients client (record are.placed { node = t.node }) } =
      takes.2 ∙ ap (λ (clients : List (Placed Client)). record world.nodes { clients = clients }) t.is in
      something (ClientTick event.moment) t.step (client_new t.step t.node t.taken_is nodes_is) tt
      (t.node, subst (λ (c : Client). ClientTicks c event.moment t.step t.node) are.node t.it_does.makes, refl)
      (steps_are _ t.taken_is)
      (client_stands t.step t.node t.taken_is nodes_is)

  server_ticks : event.what ≡ what.Tick actor.Server → IsWithin route event.moment → OneEvent
  server_ticks is time =
      let task : Task = Take (Due event.moment event.draw) in
      let t = takes_as (OfServer task) (ap (deed_for world.nodes world.sent event) is) in
      something (ServerTick event.moment) t.step (server_new t.step t.server t.taken_is t.is) time
      (t.server, subst (λ (s : Server). ServerTicks s event.moment t.step t.server) are.server t.it_does.makes, refl)
      (steps_are _ t.taken_is)
      (server_stands t.step t.server t.taken_is t.is)

  abbrev IsInTime : Type 0
  IsInTime = IsWithin route event.moment × IsLive (standing_of begun.nodes.server event.moment) ask.held

  -- the server's end
  at_server : (number : ℕ) (d : SentDatagram) → event.what ≡ what.Deliver number → slice_get world.sent number ≡ Some d → IsFrom route.at route.server_at ends.requests d → IsInTime → OneEvent
  at_server number d is here it time =
      let task : Task = Take (Came (record { at = event.moment; from = d.from; draw = event.draw; what = d.bytes })) in
      let who : node_at world.nodes d.to ≡ whose.Server =
      ap (node_at world.nodes) (it.to_is ∙ sym are.server_at) ∙ server_stands_there itself world.nodes in
      let t = takes_as (OfServer task) (ap (deed_for world.nodes world.sent event) is ∙ ap (delivering world.nodes event) here ∙ ap (λ (w : Whose). deed_by w task) who) in
      something (AtServer event.moment event.draw it.one) t.step (server_new t.step t.server t.taken_is t.is) time (
        it.here,
        (
          t.server,
          subst (λ (from : Peer). ServerHears is_sealing ends.server (record { at = event.moment; from = from; draw = event.draw; what = it.one.bytes }) t.step t.server) it.at_is
              (subst (λ (bytes : List ℕ). ServerHears is_sealing ends.server (record { at = event.moment; from = d.from; draw = event.draw; what = bytes }) t.step t.server) it.bytes
              (subst (λ (s : Server). ServerHears is_sealing s (record { at = event.moment; from = d.from; draw = event.draw; what = d.bytes }) t.step t.server) are.server t.it_does.makes)),
          refl,
        ),
      )
      (steps_are _ t.taken_is)
      (server_stands t.step t.server t.taken_is t.is)

  -- the client's end
  at_client : (number : ℕ) (d : SentDatagram) → event.what ≡ what.Deliver number → slice_get world.sent number ≡ Some d → IsFrom route.server_at route.at ends.replies d → OneEvent
  at_client number d is here it =
      let task : Task = Take (Came (record { at = event.moment; from = d.from; draw = event.draw; what = d.bytes })) in
      let who : node_at world.nodes d.to ≡ whose.Client client =
      ap (node_at world.nodes) (it.to_is ∙ sym are.at) ∙ stands_there itself world.nodes client are.placed are.apart are.there in
      let takes = takes_as (OfClient client (Do task)) (ap (deed_for world.nodes world.sent event) is ∙ ap (delivering world.nodes event) here ∙ ap (λ (w : Whose). deed_by w task) who) in
      let t = it_takes (ClientDoes is_sealing tag (Do task)) (by_client client false) world.nodes.clients client happens.taken takes.0 are.placed are.there takes.1 in
      let nodes_is : happens.nodes ≡ record world.nodes { clients = slice_set world.nodes.clients client (record are.placed { node = t.node }) } =
      takes.2 ∙ ap (λ (clients : List (Placed Client)). record world.nodes { clients = clients }) t.is in
      something (AtClient event.moment event.draw it.one) t.step (client_new t.step t.node t.taken_is nodes_is) tt (
        it.here,
        (
          t.node,
          subst (λ (from : Peer). ClientHears is_sealing ends.client (record { at = event.moment; from = from; draw = event.draw; what = it.one.bytes }) t.step t.node) it.at_is
              (subst (λ (bytes : List ℕ). ClientHears is_sealing ends.client (record { at = event.moment; from = d.from; draw = event.draw; what = bytes }) t.step t.node) it.bytes
              (subst (λ (c : Client). ClientHears is_sealing c (record { at = event.moment; from = d.from; draw = event.draw; what = d.bytes }) t.step t.node) are.node t.it_does.makes)),
          refl,
        ),
      )
      (steps_are _ t.taken_is)
      (client_stands t.step t.node t.taken_is nodes_is)

  undelivered : (number : ℕ) → event.what ≡ what.Deliver number → slice_get world.sent number ≡ None → OneEvent
  undelivered number is none =
      let t = takes_as Nothing (ap (deed_for world.nodes world.sent event) is ∙ ap (delivering world.nodes event) none) in
      nothing
      (record {
        placed = are.placed;
        there = ap (λ (n : NodeStates). slice_get n.clients client) (nodes_after ∙ t.is) ∙ are.there;
        node = are.node;
        at = are.at;
        server = ap (λ (n : NodeStates). n.server) (nodes_after ∙ t.is) ∙ are.server;
        server_at = ap (λ (n : NodeStates). n.server_at) (nodes_after ∙ t.is) ∙ are.server_at;
        apart = apart_next;
        sent = λ number d after here.
            by number d after (in_either (delivered event.what world.sent) [] number d (subst (λ (all : List SentDatagram). slice_get all number ≡ Some d) (sent_is None t.taken_is) here));
      })
      (steps_are None t.taken_is)
    where
      by : (number : ℕ) (d : SentDatagram) → base ≤ number → (slice_get (delivered event.what world.sent) number ≡ Some d) ⊎ ((m : ℕ) × (slice_get (let none : List SentDatagram = [] in none) m ≡ Some d)) → IsOfEnds route ends d
      by number d after (inl old) = before_it ends (λ one here. here) (λ one here. here) number d after old
      by number d after (inr new) = let bad : None ≡ Some d = new.1 in absurd (cc)

  pub one_event : IsOfRound begun ask event.moment event.what → OneEvent
  one_event of = by event.what refl of
    where
      by_end : (number : ℕ) (d : SentDatagram) → event.what ≡ what.Deliver number → slice_get world.sent number ≡ Some d → IsInTime → IsOfEnds route ends d → OneEvent
      by_end number d is here time (a_request it) = at_server number d is here it time
      by_end number d is here time (a_reply it) = at_client number d is here it

      by_sent : (number : ℕ) → event.what ≡ what.Deliver number → base ≤ number → IsInTime → (found : Option SentDatagram) → slice_get world.sent number ≡ found → OneEvent
      by_sent number is after time None none = undelivered number is none
      by_sent number is after time (Some d) here = by_end number d is here time (are.sent number d after here)

      by : (w : What) → event.what ≡ w → IsOfRound begun ask event.moment w → OneEvent
      by (what.Tick (actor.Client number)) is same = client_ticks (is ∙ ap (λ (n : ℕ). what.Tick (actor.Client n)) same)
      by (what.Tick actor.Server) is time = server_ticks is time
      by (what.Deliver number) is it = by_sent number is it.0 (it.1, it.2) (slice_get world.sent number) refl
      by other is bad = absurd bad

-- ---- all of them

noted_more : (number : ℕ) (before : List Happening) (event : RoundEvent) (step : Step) (earlier : List Noted)
    → noted_with number (before ++ (record { event = event; step = step }) ∷ []) earlier ≡ noted_of number event step ∷ noted_with number before earlier
noted_more number [] event step earlier = refl
noted_more number (first ∷ before) event step earlier = noted_more number before event step (noted_of number first.event first.step ∷ earlier)

-- the requests that were served in a round come after those before it
same_notes : (number : ℕ) (event : RoundEvent) (step : Step) → (noted_of number event step).notes ≡ step.notes
same_notes number (ClientTick now) step = refl
same_notes number (ServerTick now) step = refl
same_notes number (AtServer now draw sent) step = refl
same_notes number (AtClient now draw sent) step = refl

served_first : (number : ℕ) (event : RoundEvent) (step : Step) (later : List Happening) (earlier : List Noted)
    → history (noted_of number event step ∷ earlier) ++ entries_of later ≡ history earlier ++ entries_of ((record { event = event; step = step }) ∷ later)
served_first number event step later earlier =
    ap (λ (notes : StepNotes). (history earlier ++ option_to_list notes.served) ++ entries_of later) (same_notes number event step)
    ∙ append_assoc (history earlier) (option_to_list step.notes.served) (entries_of later)
    ∙ ap (λ (entries : List Entry). history earlier ++ entries) (by step.notes.served refl)
  where
    by : (served : Option Entry) → step.notes.served ≡ served → option_to_list step.notes.served ++ entries_of later ≡ entries_of ((record { event = event; step = step }) ∷ later)
    by None e = rw e refl
    by (Some entry) e = rw e refl

pub served_in : (number : ℕ) (all : List Happening) (earlier : List Noted) → history (noted_with number all earlier) ≡ history earlier ++ entries_of all
served_in number [] earlier = sym (append-nil (history earlier))
served_in number (first ∷ later) earlier =
    served_in number later (noted_of number first.event first.step ∷ earlier) ∙ served_first number first.event first.step later earlier

module _ (is_sealing : Sealings) (tag : Tags) (itself : (a : Peer) → same_peer a a ≡ true) (begun : State) (ask : StraightAsk) (asked : Client) (start : Ends)
    (earlier : List Noted)
    (promised : (all : List Happening) (last : Ends) → AreWithin (route_from begun ask) all → LivesAtFirst (way_from begun ask asked) all
    → Goes is_sealing (route_from begun ask) start all last → AreAddressed (route_from begun ask) last) where
  abbrev way : StraightRequest
  way = way_from begun ask asked

  abbrev AreTimely : List Happening → Type 0
  AreTimely all = AllByRecursion (λ happening. IsTimely begun ask happening.event) all

  within_all : (all : List Happening) → AreTimely all → AreWithin (route_from begun ask) all
  within_all [] are = tt
  within_all (happening ∷ later) are = (by happening.event are.0, within_all later are.1)
    where
      by : (event : RoundEvent) → IsTimely begun ask event → IsEventWithin (route_from begun ask) event
      by (ClientTick now) it = tt
      by (ServerTick now) it = it
      by (AtServer now draw sent) it = it.0
      by (AtClient now draw sent) it = tt

  lives_all : (all : List Happening) → AreTimely all → LivesAtFirst way all
  lives_all [] are = tt
  lives_all (happening ∷ later) are = by happening.event are.0 (lives_all later are.1)
    where
      by : (event : RoundEvent) → IsTimely begun ask event → LivesAtFirst way later → LivesBy way event (LivesAtFirst way later)
      by (ClientTick now) it more = more
      by (ServerTick now) it more = more
      by (AtServer now draw sent) it more = it.1
      by (AtClient now draw sent) it more = more

  goes_more : (before : List Happening) (old ends new : Ends) (event : RoundEvent) (step : Step) → Goes is_sealing (route_from begun ask) old before ends → HappensToEnds is_sealing (route_from begun ask) ends event step new
      → Goes is_sealing (route_from begun ask) old (before ++ (record { event = event; step = step }) ∷ []) new
  goes_more [] old ends new event step goes happens = (new, subst (λ (e : Ends). HappensToEnds is_sealing (route_from begun ask) e event step new) goes happens, refl)
  goes_more (first ∷ before) old ends new event step goes happens = (goes.0, goes.1, goes_more before goes.0 ends new event step goes.2 happens)

  timely_more : (before : List Happening) (event : RoundEvent) (step : Step) → AreTimely before → IsTimely begun ask event
      → AreTimely (before ++ (record { event = event; step = step }) ∷ [])
  timely_more [] event step are it = (it, tt)
  timely_more (first ∷ before) event step are it = (are.0, timely_more before event step are.1 it)

  -- what happened to the ends
  pub record IsLossyRound (last : State) : Type 0 where
    pub all : List Happening
    pub ends : Ends
    pub goes : Goes is_sealing (route_from begun ask) start all ends
    pub within : AreWithin (route_from begun ask) all
    pub lives : LivesAtFirst way all
    pub stands : AreEnds ask.client (length begun.sent) (route_from begun ask) last ends
    pub steps : last.steps ≡ noted_with ask.client all earlier

  pub lossy_round : (events : List Event) (world last : State) (before : List Happening) (ends : Ends) → Goes is_sealing (route_from begun ask) start before ends → AreTimely before
      → AreEnds ask.client (length begun.sent) (route_from begun ask) world ends → world.steps ≡ noted_with ask.client before earlier → AreOfRound begun ask events
      → Happen is_sealing tag world events last → IsLossyRound last
  lossy_round [] world last before ends goes timely are steps of happen = record {
    all = before;
    ends = ends;
    goes = goes;
    within = within_all before timely;
    lives = lives_all before timely;
    stands = subst (λ (w : State). AreEnds ask.client (length begun.sent) (route_from begun ask) w ends) (sym happen) are;
    steps = ap (λ (w : State). w.steps) happen ∙ steps;
  }
  lossy_round (event ∷ events) world last before ends goes timely are steps of happen =
      by (one_event is_sealing tag itself begun ask world happen.0 event ends are happen.1 of.0)
      (λ more new went are_timely stands so. lossy_round events happen.0 last more new went are_timely stands so of.1 happen.2)
    where
      by : OneEvent is_sealing tag itself begun ask world happen.0 event ends are happen.1
          → ((more : List Happening) (new : Ends) → Goes is_sealing (route_from begun ask) start more new → AreTimely more → AreEnds ask.client (length begun.sent) (route_from begun ask) happen.0 new
          → happen.0.steps ≡ noted_with ask.client more earlier → IsLossyRound last)
          → IsLossyRound last
      by (nothing stands same) later = later before ends goes timely stands (same ∙ steps)
      by (something what_is step new time happens noted stands) later =
          let all : List Happening = before ++ (record { event = what_is; step = step }) ∷ [] in
          let went : Goes is_sealing (route_from begun ask) start all new = goes_more before start ends new what_is step goes happens in
          let are_timely : AreTimely all = timely_more before what_is step timely time in
          later all new went are_timely (stands (promised all new (within_all all are_timely) (lives_all all are_timely) went))
          (noted ∙ ap (λ (notes : List Noted). noted_of ask.client what_is step ∷ notes) steps ∙ sym (noted_more ask.client before what_is step earlier))
