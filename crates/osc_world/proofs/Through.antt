-- A datagram that waits alone goes from a client through a proxy to the server, and the outcome the same way back: a quiet round of
-- six deliveries.
use Rattle.std.proofs.Common.{◌≡◌, ◌∙◌, ap, sym, subst, ℕ, suc, ◌+◌, ◌≤◌, Bool, true, false, List, [], ◌∷◌, ◌++◌, length, map, Some, None, refl, inl, inr, arith}
use Rattle.std.specs.Prelude.{slice_get, slice_set}
use Rattle.osc_model.specs.{quiet, same_peer}
use Rattle.osc_model.specs.declared.node.Draw.{Draw}
use Rattle.osc_model.specs.declared.node.Moment.{Moment}
use Rattle.osc_model.specs.declared.node.Peer.{Peer}
use Rattle.osc_model.specs.declared.step.Datagram.{Datagram}
use Rattle.osc_model.specs.declared.step.Step.{Step}
use Rattle.osc_ccm.specs.{Sealings, Tags}
use Rattle.osc_run.specs.{Noted, by_client, by_proxy, by_server}
use Rattle.osc_server.specs.{Hears as ServerHears}
use Rattle.osc_server.specs.State.{State as Server}
use Rattle.osc_client.specs.{Hears as ClientHears}
use Rattle.osc_client.specs.State.{State as Client}
use Rattle.osc_proxy.specs.{Hears as ProxyHears}
use Rattle.osc_proxy.specs.State.{State as Proxy}
use Rattle.osc_rounds.specs.{AreAmongQuiet}
use Rattle.osc_world.specs.{sent_from, NodeStates, StandApart, IsHeardByClient, IsHeardByProxy, IsHeardByServer, queue, AreWhole, Deliveries, Rounds, next_draw, waiting_first, Happens, State}
use Rattle.osc_world.specs.declared.log.SentDatagram.{SentDatagram}
use Rattle.osc_world.specs.declared.nodes.Placed.{Placed}
use Rattle.osc_world.proofs.Deliveries.{client_hears, delivery_of, over, proxy_hears, server_hears, still}
use Rattle.osc_world.proofs.Rounds.{none_lost}
use Rattle.osc_world.proofs.Slots.{got_back, set_same, set_twice}
use Rattle.osc_world.proofs.Straight.{IsWhole, coming_from, from_to}

-- ---- what each step sends, and the outcome where that comes

module _ (is_sealing : Sealings) (now : Moment) (at proxy_at server_at : Peer) where
  -- the client took the answer: one datagram goes to the proxy, which sends nothing
  pub record IsTaken (proxy : Proxy) (step : Step) : Type 0 where
    pub taken : List ℕ
    pub out : step.out ≡ record { to = proxy_at; bytes = taken } ∷ []
    pub silent : (draw : Draw) (last : Step) (after : Proxy) → ProxyHears proxy (coming_from now at draw taken) last after → last.out ≡ []

  -- the proxy sends one datagram back to the client
  pub record IsSentBack (client : Client) (proxy : Proxy) (step : Step) : Type 0 where
    pub answer : List ℕ
    pub out : step.out ≡ record { to = at; bytes = answer } ∷ []
    pub taken : (draw : Draw) (next : Step) (after : Client) → ClientHears is_sealing client (coming_from now proxy_at draw answer) next after → IsTaken proxy next

  -- the server sends one datagram back to the proxy
  pub record IsServed (client : Client) (proxy : Proxy) (step : Step) : Type 0 where
    pub reply : List ℕ
    pub out : step.out ≡ record { to = proxy_at; bytes = reply } ∷ []
    pub back : (draw : Draw) (next : Step) (after : Proxy) → ProxyHears proxy (coming_from now server_at draw reply) next after → IsSentBack client after next

  -- the client sends nothing at the acknowledgement, and the server hears what was forwarded
  pub record IsAcknowledged (client : Client) (server : Server) (proxy : Proxy) (forwarded : List ℕ) (step : Step) : Type 0 where
    pub silent : step.out ≡ []
    pub served : (draw : Draw) (next : Step) (after : Server) → IsWhole draw → ServerHears is_sealing server (coming_from now proxy_at draw forwarded) next after
        → IsServed client proxy next

  -- the proxy acknowledges what came, and forwards it to the server
  pub record IsForwarded (client : Client) (server : Server) (proxy : Proxy) (step : Step) : Type 0 where
    pub acknowledgement : List ℕ
    pub forwarded : List ℕ
    pub out : step.out ≡ record { to = at; bytes = acknowledgement } ∷ record { to = server_at; bytes = forwarded } ∷ []
    pub acknowledged : (draw : Draw) (next : Step) (after : Client) → ClientHears is_sealing client (coming_from now proxy_at draw acknowledgement) next after
        → IsAcknowledged after server proxy forwarded next

-- ---- one delivery, among these nodes

-- a client and a proxy of these numbers, each where it is
pub record Route : Type 0 where
  pub nodes : NodeStates
  pub number : ℕ
  pub placed : Placed Client
  pub there : slice_get nodes.clients number ≡ Some placed
  pub proxy_number : ℕ
  pub proxy : Placed Proxy
  pub proxy_there : slice_get nodes.proxies proxy_number ≡ Some proxy

-- the nodes, once server, client and proxy became these
abbrev pub nodes_of : Route → Server → Client → Proxy → NodeStates
nodes_of route server client proxy = record route.nodes {
  server = server;
  clients = slice_set route.nodes.clients route.number (record route.placed { node = client });
  proxies = slice_set route.nodes.proxies route.proxy_number (record route.proxy { node = proxy });
}

begins_with : (route : Route) → route.nodes ≡ nodes_of route route.nodes.server route.placed.node route.proxy.node
begins_with route =
    ap (λ (all : List (Placed Client)). record route.nodes { clients = all }) (sym (set_same route.nodes.clients route.number route.placed route.there))
    ∙ ap (λ (all : List (Placed Proxy)). record route.nodes { clients = slice_set route.nodes.clients route.number route.placed; proxies = all })
    (sym (set_same route.nodes.proxies route.proxy_number route.proxy route.proxy_there))

module _ (is_sealing : Sealings) (tag : Tags) (deliveries : Deliveries) (route : Route) (new : State) (is_quiet : Bool) where
  -- how far the round has come: the nodes, what waits, and how many deliveries are left
  pub record Stage (left : ℕ) (world : State) (server : Server) (client : Client) (proxy : Proxy) (waiting : List SentDatagram) : Type 0 where
    pub nodes : world.nodes ≡ nodes_of route server client proxy
    pub apart : StandApart world.nodes
    pub waits : queue world ≡ waiting
    pub rest : Rounds (Happens is_sealing tag) deliveries left world is_quiet new

  pub at_stage : (left : ℕ) (world : State) (server : Server) (client : Client) (proxy : Proxy) (waiting more : List SentDatagram) → waiting ≡ more → Stage left world server client proxy waiting
      → Stage left world server client proxy more
  at_stage left world server client proxy waiting more e stage = subst (λ (all : List SentDatagram). Stage left world server client proxy all) e stage

  -- the proxy hears the first that waits
  pub record AtProxy (left : ℕ) (world : State) (server : Server) (client : Client) (proxy : Proxy) (from : Peer) (bytes : List ℕ) (later : List SentDatagram) : Type 0 where
    pub next : State
    pub step : Step
    pub after : Proxy
    pub hears : ProxyHears proxy (coming_from deliveries.at from (next_draw deliveries world) bytes) step after
    pub stage : Stage left next server client after (later ++ map (sent_from route.proxy.at) step.out)
    pub steps : next.steps ≡ by_proxy route.proxy_number step.notes ∷ world.steps
    pub records : length next.records ≡ length world.records + 1

  -- the client hears it
  pub record AtClient (left : ℕ) (world : State) (server : Server) (client : Client) (proxy : Proxy) (from : Peer) (bytes : List ℕ) (later : List SentDatagram) : Type 0 where
    pub next : State
    pub step : Step
    pub after : Client
    pub hears : ClientHears is_sealing client (coming_from deliveries.at from (next_draw deliveries world) bytes) step after
    pub stage : Stage left next server after proxy (later ++ map (sent_from route.placed.at) step.out)
    pub steps : next.steps ≡ by_client route.number false step.notes ∷ world.steps
    pub records : length next.records ≡ length world.records + 1

  -- the server hears it
  pub record AtServer (left : ℕ) (world : State) (server : Server) (client : Client) (proxy : Proxy) (from : Peer) (bytes : List ℕ) (later : List SentDatagram) : Type 0 where
    pub next : State
    pub step : Step
    pub after : Server
    pub hears : ServerHears is_sealing server (coming_from deliveries.at from (next_draw deliveries world) bytes) step after
    pub stage : Stage left next after client proxy (later ++ map (sent_from route.nodes.server_at) step.out)
    pub steps : next.steps ≡ by_server step.notes ∷ world.steps
    pub records : length next.records ≡ length world.records + 1

  module _ (itself : (a : Peer) → same_peer a a ≡ true) (left : ℕ) (world : State) (server : Server) (client : Client) (proxy : Proxy) (from : Peer) (bytes : List ℕ) (later : List SentDatagram) where
    pub at_proxy : Stage (suc left) world server client proxy (from_to from route.proxy.at bytes ∷ later) → AtProxy left world server client proxy from bytes later
    at_proxy stage =
        let here : slice_get world.nodes.proxies route.proxy_number ≡ Some (record route.proxy { node = proxy }) =
        ap (λ (n : NodeStates). slice_get n.proxies route.proxy_number) stage.nodes
        ∙ got_back route.nodes.proxies route.proxy_number route.proxy (record route.proxy { node = proxy }) route.proxy_there in
        by
        (proxy_hears is_sealing tag deliveries itself left world (from_to from route.proxy.at bytes) later is_quiet new stage.apart stage.waits stage.rest route.proxy_number
        (record route.proxy { node = proxy }) here refl)
      where
        by : (next : State) × IsHeardByProxy route.proxy_number (record route.proxy { node = proxy }) (delivery_of deliveries world (from_to from route.proxy.at bytes) later) world next
            × Rounds (Happens is_sealing tag) deliveries left next is_quiet new → AtProxy left world server client proxy from bytes later
        by it = record {
          next = it.0;
          step = it.1.step;
          after = it.1.proxy;
          hears = it.1.hears;
          stage = record {
            nodes = it.1.nodes
                ∙ ap (λ (n : NodeStates). record n { proxies = slice_set n.proxies route.proxy_number (record route.proxy { node = it.1.proxy }) }) stage.nodes
                ∙ ap (λ (all : List (Placed Proxy)). record (nodes_of route server client proxy) { proxies = all })
                (set_twice route.nodes.proxies route.proxy_number (record route.proxy { node = proxy }) (record route.proxy { node = it.1.proxy }));
            apart = it.1.kept.apart;
            waits = it.1.kept.waits;
            rest = it.2;
          };
          steps = it.1.kept.steps;
          records = it.1.kept.records;
        }

    pub at_client : Stage (suc left) world server client proxy (from_to from route.placed.at bytes ∷ later) → AtClient left world server client proxy from bytes later
    at_client stage =
        let here : slice_get world.nodes.clients route.number ≡ Some (record route.placed { node = client }) =
        ap (λ (n : NodeStates). slice_get n.clients route.number) stage.nodes
        ∙ got_back route.nodes.clients route.number route.placed (record route.placed { node = client }) route.there in
        by
        (client_hears is_sealing tag deliveries itself left world (from_to from route.placed.at bytes) later is_quiet new stage.apart stage.waits stage.rest route.number
        (record route.placed { node = client }) here refl)
      where
        by : (next : State) × IsHeardByClient is_sealing route.number (record route.placed { node = client }) (delivery_of deliveries world (from_to from route.placed.at bytes) later) world next
            × Rounds (Happens is_sealing tag) deliveries left next is_quiet new → AtClient left world server client proxy from bytes later
        by it = record {
          next = it.0;
          step = it.1.step;
          after = it.1.client;
          hears = it.1.hears;
          stage = record {
            nodes = it.1.nodes
                ∙ ap (λ (n : NodeStates). record n { clients = slice_set n.clients route.number (record route.placed { node = it.1.client }) }) stage.nodes
                ∙ ap (λ (all : List (Placed Client)). record (nodes_of route server client proxy) { clients = all })
                (set_twice route.nodes.clients route.number (record route.placed { node = client }) (record route.placed { node = it.1.client }));
            apart = it.1.kept.apart;
            waits = it.1.kept.waits;
            rest = it.2;
          };
          steps = it.1.kept.steps;
          records = it.1.kept.records;
        }

    pub at_server : Stage (suc left) world server client proxy (from_to from route.nodes.server_at bytes ∷ later) → AtServer left world server client proxy from bytes later
    at_server stage =
        by
        (server_hears is_sealing tag deliveries itself left world (from_to from route.nodes.server_at bytes) later is_quiet new stage.apart stage.waits stage.rest
        (sym (ap (λ (n : NodeStates). n.server_at) stage.nodes)))
      where
        by : (next : State) × IsHeardByServer is_sealing (delivery_of deliveries world (from_to from route.nodes.server_at bytes) later) world next
            × Rounds (Happens is_sealing tag) deliveries left next is_quiet new → AtServer left world server client proxy from bytes later
        by it = record {
          next = it.0;
          step = it.1.step;
          after = it.1.server;
          hears = subst (λ (n : NodeStates). ServerHears is_sealing n.server (coming_from deliveries.at from (next_draw deliveries world) bytes) it.1.step it.1.server) stage.nodes it.1.hears;
          stage = record {
            nodes = it.1.nodes ∙ ap (λ (n : NodeStates). record n { server = it.1.server }) stage.nodes;
            apart = it.1.kept.apart;
            waits = it.1.kept.waits ∙ ap (λ (n : NodeStates). later ++ map (sent_from n.server_at) it.1.step.out) stage.nodes;
            rest = it.2;
          };
          steps = it.1.kept.steps;
          records = it.1.kept.records;
        }

-- ---- the round

module _ (is_sealing : Sealings) (deliveries : Deliveries) (begun : State) (route : Route) (bytes : List ℕ)
    (law : (step : Step) (after : Proxy) → IsWhole (next_draw deliveries begun)
    → ProxyHears route.proxy.node (coming_from deliveries.at route.placed.at (next_draw deliveries begun) bytes) step after
    → IsForwarded is_sealing deliveries.at route.placed.at route.proxy.at route.nodes.server_at route.placed.node route.nodes.server after step) where
  -- the six steps, and what is left of them
  pub record IsThrough (new : State) (is_quiet : Bool) : Type 0 where
    pub whole_1 : IsWhole (next_draw deliveries begun)
    pub step_1 : Step
    pub proxy_1 : Proxy
    pub hears_1 : ProxyHears route.proxy.node (coming_from deliveries.at route.placed.at (next_draw deliveries begun) bytes) step_1 proxy_1
    pub draw_2 : Draw
    pub step_2 : Step
    pub client_2 : Client
    pub hears_2 : ClientHears is_sealing route.placed.node (coming_from deliveries.at route.proxy.at draw_2 (law step_1 proxy_1 whole_1 hears_1).acknowledgement) step_2 client_2
    pub draw_3 : Draw
    pub whole_3 : IsWhole draw_3
    pub step_3 : Step
    pub server_3 : Server
    pub hears_3 : ServerHears is_sealing route.nodes.server (coming_from deliveries.at route.proxy.at draw_3 (law step_1 proxy_1 whole_1 hears_1).forwarded) step_3 server_3
    pub draw_4 : Draw
    pub step_4 : Step
    pub proxy_4 : Proxy
    pub hears_4 : ProxyHears proxy_1
        (coming_from deliveries.at route.nodes.server_at draw_4
        (((law step_1 proxy_1 whole_1 hears_1).acknowledged draw_2 step_2 client_2 hears_2).served draw_3 step_3 server_3 whole_3 hears_3).reply)
        step_4 proxy_4
    pub draw_5 : Draw
    pub step_5 : Step
    pub client_5 : Client
    pub hears_5 : ClientHears is_sealing client_2
        (coming_from deliveries.at route.proxy.at draw_5
        ((((law step_1 proxy_1 whole_1 hears_1).acknowledged draw_2 step_2 client_2 hears_2).served draw_3 step_3 server_3 whole_3 hears_3).back
        draw_4 step_4 proxy_4 hears_4).answer)
        step_5 client_5
    pub draw_6 : Draw
    pub step_6 : Step
    pub proxy_6 : Proxy
    pub hears_6 : ProxyHears proxy_4
        (coming_from deliveries.at route.placed.at draw_6
        (((((law step_1 proxy_1 whole_1 hears_1).acknowledged draw_2 step_2 client_2 hears_2).served draw_3 step_3 server_3 whole_3 hears_3).back
        draw_4 step_4 proxy_4 hears_4).taken draw_5 step_5 client_5 hears_5).taken)
        step_6 proxy_6
    pub nodes_are : new.nodes ≡ nodes_of route server_3 client_5 proxy_6
    pub steps : new.steps
        ≡ by_proxy route.proxy_number step_6.notes
        ∷ by_client route.number false step_5.notes
        ∷ by_proxy route.proxy_number step_4.notes
        ∷ by_server step_3.notes
        ∷ by_client route.number false step_2.notes
        ∷ by_proxy route.proxy_number step_1.notes
        ∷ begun.steps
    pub count : length new.records ≡ length begun.records + 6
    pub quiet : is_quiet ≡ true
    pub still : waiting_first new ≡ None

  module _ (tag : Tags) (itself : (a : Peer) → same_peer a a ≡ true) (left : ℕ) (new : State) (is_quiet : Bool)
      (sizes : AreWhole deliveries.drawn begun new)
      (nodes_is : begun.nodes ≡ route.nodes)
      (apart : StandApart begun.nodes)
      (alone : queue begun ≡ from_to route.placed.at route.proxy.at bytes ∷ [])
      (rounds : Rounds (Happens is_sealing tag) deliveries (suc (suc (suc (suc (suc (suc left)))))) begun is_quiet new) where
    -- the draw of a delivery in it
    whole_at : (world next : State) (more : ℕ) → length begun.records ≤ length world.records → length next.records ≡ length world.records + 1
        → Rounds (Happens is_sealing tag) deliveries more next is_quiet new → IsWhole (next_draw deliveries world)
    whole_at world next more since one rest = sizes (length world.records) since (omega (arith, one, none_lost is_sealing tag deliveries more next is_quiet new rest))

    -- to the proxy

    stage_0 : Stage is_sealing tag deliveries route new is_quiet (suc (suc (suc (suc (suc (suc left)))))) begun route.nodes.server route.placed.node route.proxy.node
        (from_to route.placed.at route.proxy.at bytes ∷ [])
    stage_0 = record { nodes = nodes_is ∙ begins_with route; apart = apart; waits = alone; rest = rounds }

    w1 : AtProxy is_sealing tag deliveries route new is_quiet (suc (suc (suc (suc (suc left))))) begun route.nodes.server route.placed.node route.proxy.node route.placed.at bytes []
    w1 = at_proxy is_sealing tag deliveries route new is_quiet itself (suc (suc (suc (suc (suc left))))) begun route.nodes.server route.placed.node route.proxy.node route.placed.at bytes [] stage_0

    whole_1 : IsWhole (next_draw deliveries begun)
    whole_1 = whole_at begun w1.next (suc (suc (suc (suc (suc left))))) (omega arith) w1.records w1.stage.rest

    abbrev forwards : IsForwarded is_sealing deliveries.at route.placed.at route.proxy.at route.nodes.server_at route.placed.node route.nodes.server w1.after w1.step
    forwards = law w1.step w1.after whole_1 w1.hears

    abbrev behind : List SentDatagram
    behind = from_to route.proxy.at route.nodes.server_at forwards.forwarded ∷ []

    -- its acknowledgement to the client

    stage_1 : Stage is_sealing tag deliveries route new is_quiet (suc (suc (suc (suc (suc left))))) w1.next route.nodes.server route.placed.node w1.after
        (from_to route.proxy.at route.placed.at forwards.acknowledgement ∷ behind)
    stage_1 =
        at_stage is_sealing tag deliveries route new is_quiet (suc (suc (suc (suc (suc left))))) w1.next route.nodes.server route.placed.node w1.after
        (map (sent_from route.proxy.at) w1.step.out) (from_to route.proxy.at route.placed.at forwards.acknowledgement ∷ behind)
        (ap (λ (out : List Datagram). map (sent_from route.proxy.at) out) forwards.out) w1.stage

    w2 : AtClient is_sealing tag deliveries route new is_quiet (suc (suc (suc (suc left)))) w1.next route.nodes.server route.placed.node w1.after route.proxy.at forwards.acknowledgement behind
    w2 = at_client is_sealing tag deliveries route new is_quiet itself (suc (suc (suc (suc left)))) w1.next route.nodes.server route.placed.node w1.after route.proxy.at forwards.acknowledgement behind stage_1

    abbrev draw_2 : Draw
    draw_2 = next_draw deliveries w1.next

    abbrev acknowledged : IsAcknowledged is_sealing deliveries.at route.placed.at route.proxy.at route.nodes.server_at w2.after route.nodes.server w1.after forwards.forwarded w2.step
    acknowledged = forwards.acknowledged draw_2 w2.step w2.after w2.hears

    -- what it forwarded to the server

    stage_2 : Stage is_sealing tag deliveries route new is_quiet (suc (suc (suc (suc left)))) w2.next route.nodes.server w2.after w1.after behind
    stage_2 =
        at_stage is_sealing tag deliveries route new is_quiet (suc (suc (suc (suc left)))) w2.next route.nodes.server w2.after w1.after
        (behind ++ map (sent_from route.placed.at) w2.step.out) behind
        (ap (λ (out : List Datagram). behind ++ map (sent_from route.placed.at) out) acknowledged.silent) w2.stage

    w3 : AtServer is_sealing tag deliveries route new is_quiet (suc (suc (suc left))) w2.next route.nodes.server w2.after w1.after route.proxy.at forwards.forwarded []
    w3 = at_server is_sealing tag deliveries route new is_quiet itself (suc (suc (suc left))) w2.next route.nodes.server w2.after w1.after route.proxy.at forwards.forwarded [] stage_2

    abbrev draw_3 : Draw
    draw_3 = next_draw deliveries w2.next

    whole_3 : IsWhole draw_3
    whole_3 = whole_at w2.next w3.next (suc (suc (suc left))) (omega (arith, w1.records, w2.records)) w3.records w3.stage.rest

    abbrev served : IsServed is_sealing deliveries.at route.placed.at route.proxy.at route.nodes.server_at w2.after w1.after w3.step
    served = acknowledged.served draw_3 w3.step w3.after whole_3 w3.hears

    -- its answer to the proxy

    stage_3 : Stage is_sealing tag deliveries route new is_quiet (suc (suc (suc left))) w3.next w3.after w2.after w1.after (from_to route.nodes.server_at route.proxy.at served.reply ∷ [])
    stage_3 =
        at_stage is_sealing tag deliveries route new is_quiet (suc (suc (suc left))) w3.next w3.after w2.after w1.after
        (map (sent_from route.nodes.server_at) w3.step.out) (from_to route.nodes.server_at route.proxy.at served.reply ∷ [])
        (ap (λ (out : List Datagram). map (sent_from route.nodes.server_at) out) served.out) w3.stage

    w4 : AtProxy is_sealing tag deliveries route new is_quiet (suc (suc left)) w3.next w3.after w2.after w1.after route.nodes.server_at served.reply []
    w4 = at_proxy is_sealing tag deliveries route new is_quiet itself (suc (suc left)) w3.next w3.after w2.after w1.after route.nodes.server_at served.reply [] stage_3

    abbrev draw_4 : Draw
    draw_4 = next_draw deliveries w3.next

    abbrev back : IsSentBack is_sealing deliveries.at route.placed.at route.proxy.at route.nodes.server_at w2.after w4.after w4.step
    back = served.back draw_4 w4.step w4.after w4.hears

    -- and back to the client

    stage_4 : Stage is_sealing tag deliveries route new is_quiet (suc (suc left)) w4.next w3.after w2.after w4.after (from_to route.proxy.at route.placed.at back.answer ∷ [])
    stage_4 =
        at_stage is_sealing tag deliveries route new is_quiet (suc (suc left)) w4.next w3.after w2.after w4.after
        (map (sent_from route.proxy.at) w4.step.out) (from_to route.proxy.at route.placed.at back.answer ∷ [])
        (ap (λ (out : List Datagram). map (sent_from route.proxy.at) out) back.out) w4.stage

    w5 : AtClient is_sealing tag deliveries route new is_quiet (suc left) w4.next w3.after w2.after w4.after route.proxy.at back.answer []
    w5 = at_client is_sealing tag deliveries route new is_quiet itself (suc left) w4.next w3.after w2.after w4.after route.proxy.at back.answer [] stage_4

    abbrev draw_5 : Draw
    draw_5 = next_draw deliveries w4.next

    abbrev taken : IsTaken is_sealing deliveries.at route.placed.at route.proxy.at route.nodes.server_at w4.after w5.step
    taken = back.taken draw_5 w5.step w5.after w5.hears

    -- whose acknowledgement ends it at the proxy

    stage_5 : Stage is_sealing tag deliveries route new is_quiet (suc left) w5.next w3.after w5.after w4.after (from_to route.placed.at route.proxy.at taken.taken ∷ [])
    stage_5 =
        at_stage is_sealing tag deliveries route new is_quiet (suc left) w5.next w3.after w5.after w4.after
        (map (sent_from route.placed.at) w5.step.out) (from_to route.placed.at route.proxy.at taken.taken ∷ [])
        (ap (λ (out : List Datagram). map (sent_from route.placed.at) out) taken.out) w5.stage

    w6 : AtProxy is_sealing tag deliveries route new is_quiet left w5.next w3.after w5.after w4.after route.placed.at taken.taken []
    w6 = at_proxy is_sealing tag deliveries route new is_quiet itself left w5.next w3.after w5.after w4.after route.placed.at taken.taken [] stage_5

    abbrev draw_6 : Draw
    draw_6 = next_draw deliveries w5.next

    none_6 : queue w6.next ≡ []
    none_6 = w6.stage.waits ∙ ap (λ (out : List Datagram). map (sent_from route.proxy.at) out) (taken.silent draw_6 w6.step w6.after w6.hears)

    ends : (is_quiet ≡ true) × (new ≡ w6.next)
    ends = over is_sealing tag deliveries left w6.next is_quiet new none_6 w6.stage.rest

    steps_6 : w6.next.steps
        ≡ by_proxy route.proxy_number w6.step.notes
        ∷ by_client route.number false w5.step.notes
        ∷ by_proxy route.proxy_number w4.step.notes
        ∷ by_server w3.step.notes
        ∷ by_client route.number false w2.step.notes
        ∷ by_proxy route.proxy_number w1.step.notes
        ∷ begun.steps
    steps_6 = cc (w1.steps, w2.steps, w3.steps, w4.steps, w5.steps, w6.steps)

    pub through : IsThrough new is_quiet
    through = record {
      whole_1 = whole_1;
      step_1 = w1.step;
      proxy_1 = w1.after;
      hears_1 = w1.hears;
      draw_2 = draw_2;
      step_2 = w2.step;
      client_2 = w2.after;
      hears_2 = w2.hears;
      draw_3 = draw_3;
      whole_3 = whole_3;
      step_3 = w3.step;
      server_3 = w3.after;
      hears_3 = w3.hears;
      draw_4 = draw_4;
      step_4 = w4.step;
      proxy_4 = w4.after;
      hears_4 = w4.hears;
      draw_5 = draw_5;
      step_5 = w5.step;
      client_5 = w5.after;
      hears_5 = w5.hears;
      draw_6 = draw_6;
      step_6 = w6.step;
      proxy_6 = w6.after;
      hears_6 = w6.hears;
      nodes_are = ap (λ (w : State). w.nodes) ends.1 ∙ w6.stage.nodes;
      steps = ap (λ (w : State). w.steps) ends.1 ∙ steps_6;
      count = ap (λ (w : State). length w.records) ends.1 ∙ omega (arith, w1.records, w2.records, w3.records, w4.records, w5.records, w6.records);
      quiet = ends.0;
      still = still new (ap queue ends.1 ∙ none_6);
    }

-- the draw of the first delivery has 32 bytes, once something waits for the proxy
pub first_is_whole : (is_sealing : Sealings) (tag : Tags) (deliveries : Deliveries) (itself : (a : Peer) → same_peer a a ≡ true) (route : Route)
    (bytes : List ℕ) (left : ℕ) (begun new : State) (is_quiet : Bool)
    → AreWhole deliveries.drawn begun new → begun.nodes ≡ route.nodes → StandApart begun.nodes → queue begun ≡ from_to route.placed.at route.proxy.at bytes ∷ []
    → Rounds (Happens is_sealing tag) deliveries (suc left) begun is_quiet new → IsWhole (next_draw deliveries begun)
first_is_whole is_sealing tag deliveries itself route bytes left begun new is_quiet sizes nodes_is apart alone rounds =
    by
    (proxy_hears is_sealing tag deliveries itself left begun (from_to route.placed.at route.proxy.at bytes) [] is_quiet new apart alone rounds route.proxy_number route.proxy
    (ap (λ (n : NodeStates). slice_get n.proxies route.proxy_number) nodes_is ∙ route.proxy_there) refl)
  where
    by : (next : State) × IsHeardByProxy route.proxy_number route.proxy (delivery_of deliveries begun (from_to route.placed.at route.proxy.at bytes) []) begun next
        × Rounds (Happens is_sealing tag) deliveries left next is_quiet new → IsWhole (next_draw deliveries begun)
    by it = sizes (length begun.records) (omega arith) (omega (arith, it.1.kept.records, none_lost is_sealing tag deliveries left it.0 is_quiet new it.2))

-- ---- what the seven steps note: the round's six, and the client's before it

-- of seven steps, these three, and four others that noted nothing
pub three_of_seven : (asks first settles serves brings takes last : Noted) → first.notes ≡ quiet → settles.notes ≡ quiet → brings.notes ≡ quiet → last.notes ≡ quiet
    → AreAmongQuiet (takes ∷ serves ∷ asks ∷ []) (last ∷ takes ∷ brings ∷ serves ∷ settles ∷ first ∷ asks ∷ [])
three_of_seven asks first settles serves brings takes last quiet_1 quiet_2 quiet_4 quiet_6 =
    inl (quiet_6, inr (serves ∷ asks ∷ [], refl, inl (quiet_4, inr (asks ∷ [], refl, inl (quiet_2, inl (quiet_1, inr ([], refl, refl)))))))
