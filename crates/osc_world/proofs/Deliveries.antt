-- The first datagram that waits is delivered: who hears it, and what waits then.
use Rattle.std.proofs.Common.{◌≡◌, ◌∙◌, ap, sym, subst, refl, ℕ, zero, suc, Bool, true, false, List, [], ◌∷◌, ◌++◌, length, map, Option, Some, None}
use Rattle.std.specs.Prelude.{filter, is_none, slice_get}
use Rattle.std.proofs.lemmas.List.{length-append}
use Rattle.std.proofs.lemmas.List.Elements.{filter-append}
use Rattle.osc_model.specs.StepNotes.{StepNotes}
use Rattle.osc_model.specs.declared.node.Peer.{Peer}
use Rattle.osc_model.specs.declared.step.Step.{Step}
use Rattle.osc_model.specs.{same_peer}
use Rattle.osc_ccm.specs.{Sealings, Tags}
use Rattle.osc_run.specs.{Came, Noted, by_client, by_proxy, by_server}
use Rattle.osc_server.specs.Steps as of_server
use Rattle.osc_proxy.specs.{restarted as proxy_again}
use Rattle.osc_proxy.specs.State.{State as Proxy}
use Rattle.osc_proxy.specs.Steps as of_proxy
use Rattle.osc_client.specs.State.{State as Client}
use Rattle.osc_world.specs.{delivered, sent_by, sent_from, settled, settled_at, steps_with, Deed, Do, StandApart, Take, Task, deed_by, deed_of, delivering, node_at, Delivery, IsHeardByClient, IsHeardByProxy, IsHeardByServer, IsKeptOf, came_by, queue, Deliveries, OneMore, Rounds, delivery, next_draw, waiting_first, ClientDoes, Does, ServerTakes, Takes, Happens, State}
use Rattle.osc_world.specs.declared.event.Event.{Event}
use Rattle.osc_world.specs.declared.log.SentDatagram.{SentDatagram}
use Rattle.osc_world.specs.declared.nodes.Placed.{Placed}
use Rattle.osc_world.specs.declared.nodes.StepTaken.{StepTaken}
use Rattle.osc_world.specs.declared.nodes.Whose.{Whose}
use Rattle.osc_world.specs.declared.nodes.Whose.TheVariants as whose
use Rattle.osc_world.proofs.Apart.{apart_after, proxy_stands_there, server_stands_there, stands_there}
use Rattle.osc_world.proofs.Queue.{IsFirst, all_wait, first_of, first_place, none_first, none_waits, waits}
use Rattle.osc_world.proofs.Taking.{it_takes}

-- ---- one delivery

module _ (is_sealing : Sealings) (tag : Tags) (one : Delivery) (old next : State) (it : IsFirst old.sent one.first one.later) (apart : StandApart old.nodes)
    (happens : Happens is_sealing tag old (delivery one.at one.draw it.number) next) where
  abbrev its_event : Event
  its_event = delivery one.at one.draw it.number

  -- what its hearer does
  abbrev task : Task
  task = Take (Came (came_by one))

  takes : (who : Whose) → node_at old.nodes one.first.to ≡ who → Takes is_sealing tag old.nodes (deed_by who task) happens.taken happens.nodes
  takes who node_is =
      let deed_is : deed_of old.nodes old.sent its_event ≡ deed_by who task = ap (delivering old.nodes its_event) it.here ∙ ap (λ (w : Whose). deed_by w task) node_is in
      subst (λ (deed : Deed). Takes is_sealing tag old.nodes deed happens.taken happens.nodes) deed_is happens.takes

  nodes_after : next.nodes ≡ happens.nodes
  nodes_after = ap (λ (w : State). w.nodes) happens.is

  queue_after : (taken : StepTaken) → happens.taken ≡ Some taken → queue next ≡ one.later ++ map (sent_from taken.at) taken.out
  queue_after taken is =
      ap queue happens.is
      ∙ filter-append waits (settled it.number old.sent) (sent_by happens.taken)
      ∙ ap (λ (o : Option SentDatagram). filter waits (settled_at it.number o old.sent) ++ filter waits (sent_by happens.taken)) it.here
      ∙ ap (λ (all : List SentDatagram). all ++ filter waits (sent_by happens.taken)) it.left
      ∙ ap (λ (t : Option StepTaken). one.later ++ filter waits (sent_by t)) is
      ∙ ap (λ (all : List SentDatagram). one.later ++ all) (all_wait taken.at taken.out)

  kept : (at : Peer) (noted : StepNotes → Noted) (step : Step) → happens.taken ≡ Some (record { at = at; noted = noted step.notes; out = step.out })
      → IsKeptOf one at noted old step next
  kept at noted step is = record {
    waits = queue_after _ is;
    steps = ap (λ (w : State). w.steps) happens.is ∙ ap (λ (t : Option StepTaken). steps_with t old.steps) is;
    records = ap (λ (w : State). length w.records) happens.is ∙ length-append old.records _;
    apart = subst StandApart (sym nodes_after) (apart_after is_sealing tag old.nodes happens.nodes (deed_of old.nodes old.sent its_event) happens.taken happens.takes apart);
  }

  pub to_server : node_at old.nodes one.first.to ≡ whose.Server → IsHeardByServer is_sealing one old next
  to_server node_is = by (takes whose.Server node_is)
    where
      by : ServerTakes (Does (of_server.IsStep is_sealing) of_server.again task) old.nodes happens.taken happens.nodes → IsHeardByServer is_sealing one old next
      by t = record {
        step = t.step;
        server = t.server;
        hears = t.it_does.makes;
        nodes = nodes_after ∙ t.is;
        kept = kept old.nodes.server_at by_server t.step t.taken_is;
      }

  pub to_client : (number : ℕ) (placed : Placed Client) → node_at old.nodes one.first.to ≡ whose.Client number → slice_get old.nodes.clients number ≡ Some placed
      → IsHeardByClient is_sealing number placed one old next
  to_client number placed node_is there = by (takes (whose.Client number) node_is)
    where
      by : Takes is_sealing tag old.nodes (deed_by (whose.Client number) task) happens.taken happens.nodes → IsHeardByClient is_sealing number placed one old next
      by takes =
          let t = it_takes (ClientDoes is_sealing tag (Do task)) (by_client number false) old.nodes.clients number happens.taken takes.0 placed there takes.1 in
          record {
            step = t.step;
            client = t.node;
            hears = t.it_does.makes;
            nodes = nodes_after ∙ takes.2 ∙ ap (λ (clients : List (Placed Client)). record old.nodes { clients = clients }) t.is;
            kept = kept placed.at (by_client number false) t.step t.taken_is;
          }

  pub to_proxy : (number : ℕ) (placed : Placed Proxy) → node_at old.nodes one.first.to ≡ whose.Proxy number → slice_get old.nodes.proxies number ≡ Some placed
      → IsHeardByProxy number placed one old next
  to_proxy number placed node_is there = by (takes (whose.Proxy number) node_is)
    where
      by : Takes is_sealing tag old.nodes (deed_by (whose.Proxy number) task) happens.taken happens.nodes → IsHeardByProxy number placed one old next
      by takes =
          let t = it_takes (Does of_proxy.IsStep proxy_again task) (by_proxy number) old.nodes.proxies number happens.taken takes.0 placed there takes.1 in
          record {
            step = t.step;
            proxy = t.node;
            hears = t.it_does.makes;
            nodes = nodes_after ∙ takes.2 ∙ ap (λ (proxies : List (Placed Proxy)). record old.nodes { proxies = proxies }) t.is;
            kept = kept placed.at (by_proxy number) t.step t.taken_is;
          }

-- ---- a quiet round begins with it

pub at_rest : (world : State) → waiting_first world ≡ None → queue world ≡ []
at_rest world none = none_waits world.sent none

pub still : (world : State) → queue world ≡ [] → waiting_first world ≡ None
still world none = none_first world.sent none

-- the delivery of the first
abbrev pub delivery_of : Deliveries → State → SentDatagram → List SentDatagram → Delivery
delivery_of deliveries old first later = record { at = deliveries.at; draw = next_draw deliveries old; first = first; later = later }

module _ (is_sealing : Sealings) (tag : Tags) (deliveries : Deliveries) where
  abbrev GoesOn : ℕ → State → Bool → State → Type 0
  GoesOn limit old is_quiet new = Rounds (Happens is_sealing tag) deliveries limit old is_quiet new

  -- it goes on from there
  abbrev Goes : ℕ → State → Bool → State → ℕ → Type 0
  Goes left old is_quiet new datagram =
      (next : State) × Happens is_sealing tag old (delivery deliveries.at (next_draw deliveries old) datagram) next × GoesOn left next is_quiet new

  -- where nothing waits it is over
  over_by : (limit : ℕ) (old : State) (is_quiet : Bool) (new : State) → waiting_first old ≡ None → GoesOn limit old is_quiet new → (is_quiet ≡ true) × (new ≡ old)
  over_by zero old is_quiet new none rounds = (rounds.0 ∙ ap (λ (o : Option ℕ). is_none o) none, rounds.1)
  over_by (suc left) old is_quiet new none rounds = subst (λ (it : Option ℕ). OneMore (Goes left old is_quiet new) old it is_quiet new) none rounds

  pub over : (limit : ℕ) (old : State) (is_quiet : Bool) (new : State) → queue old ≡ [] → GoesOn limit old is_quiet new → (is_quiet ≡ true) × (new ≡ old)
  over limit old is_quiet new none rounds = over_by limit old is_quiet new (still old none) rounds

  module _ (itself : (a : Peer) → same_peer a a ≡ true) (left : ℕ) (old : State) (first : SentDatagram) (later : List SentDatagram) (is_quiet : Bool) (new : State)
      (apart : StandApart old.nodes) (waits_first : queue old ≡ first ∷ later) (rounds : GoesOn (suc left) old is_quiet new) where
    abbrev one : Delivery
    one = delivery_of deliveries old first later

    it : IsFirst old.sent first later
    it = first_of old.sent first later waits_first

    next : Goes left old is_quiet new it.number
    next = subst (λ (o : Option ℕ). OneMore (Goes left old is_quiet new) old o is_quiet new) (first_place old.sent first later it) rounds

    pub server_hears : first.to ≡ old.nodes.server_at → (next : State) × IsHeardByServer is_sealing one old next × GoesOn left next is_quiet new
    server_hears to =
        let node_is : node_at old.nodes first.to ≡ whose.Server = ap (node_at old.nodes) to ∙ server_stands_there itself old.nodes in
        (next.0, to_server is_sealing tag one old next.0 it apart next.1 node_is, next.2)

    pub client_hears : (number : ℕ) (placed : Placed Client) → slice_get old.nodes.clients number ≡ Some placed → first.to ≡ placed.at
        → (next : State) × IsHeardByClient is_sealing number placed one old next × GoesOn left next is_quiet new
    client_hears number placed there to =
        let node_is : node_at old.nodes first.to ≡ whose.Client number = ap (node_at old.nodes) to ∙ stands_there itself old.nodes number placed apart there in
        (next.0, to_client is_sealing tag one old next.0 it apart next.1 number placed node_is there, next.2)

    pub proxy_hears : (number : ℕ) (placed : Placed Proxy) → slice_get old.nodes.proxies number ≡ Some placed → first.to ≡ placed.at
        → (next : State) × IsHeardByProxy number placed one old next × GoesOn left next is_quiet new
    proxy_hears number placed there to =
        let node_is : node_at old.nodes first.to ≡ whose.Proxy number = ap (node_at old.nodes) to ∙ proxy_stands_there itself old.nodes number placed apart there in
        (next.0, to_proxy is_sealing tag one old next.0 it apart next.1 number placed node_is there, next.2)

-- ---- what an event sends that delivers nothing waits after the others

sent_wait : (taken : Option StepTaken) → filter waits (sent_by taken) ≡ sent_by taken
sent_wait None = refl
sent_wait (Some taken) = all_wait taken.at taken.out

pub sent_behind : (is_sealing : Sealings) (tag : Tags) (old new : State) (event : Event) (happens : Happens is_sealing tag old event new)
    → delivered event.what old.sent ≡ old.sent → queue new ≡ queue old ++ sent_by happens.taken
sent_behind is_sealing tag old new event happens stays =
    ap queue happens.is
    ∙ ap (λ (all : List SentDatagram). filter waits (all ++ sent_by happens.taken)) stays
    ∙ filter-append waits old.sent (sent_by happens.taken)
    ∙ ap (λ (all : List SentDatagram). queue old ++ all) (sent_wait happens.taken)

-- ---- what was minted stays

module _ (is_sealing : Sealings) (tag : Tags) (deliveries : Deliveries) where
  happens_minted : (old new : State) (event : Event) → Happens is_sealing tag old event new → new.minted ≡ old.minted
  happens_minted old new event happens = ap (λ (w : State). w.minted) happens.is

  rounds_minted : (left : ℕ) (old : State) (is_quiet : Bool) (new : State) → Rounds (Happens is_sealing tag) deliveries left old is_quiet new → new.minted ≡ old.minted
  rounds_minted zero old is_quiet new rounds = ap (λ (w : State). w.minted) rounds.1
  rounds_minted (suc left) old is_quiet new rounds =
      by (waiting_first old) (λ (next : State) later. rounds_minted left next is_quiet new later) rounds
    where
      by : (first : Option ℕ) → ((next : State) → Rounds (Happens is_sealing tag) deliveries left next is_quiet new → new.minted ≡ next.minted)
          → OneMore (Goes is_sealing tag deliveries left old is_quiet new) old first is_quiet new
          → new.minted ≡ old.minted
      by None later it = ap (λ (w : State). w.minted) it.1
      by (Some datagram) later it = later it.0 it.2 ∙ happens_minted old it.0 (delivery deliveries.at (next_draw deliveries old) datagram) it.1

  -- after an event and a quiet round
  pub still_minted : (left : ℕ) (old begun : State) (is_quiet : Bool) (new : State) (event : Event)
      → Happens is_sealing tag old event begun → Rounds (Happens is_sealing tag) deliveries left begun is_quiet new → new.minted ≡ old.minted
  still_minted left old begun is_quiet new event happens rounds = rounds_minted left begun is_quiet new rounds ∙ happens_minted old begun event happens
