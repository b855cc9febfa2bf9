-- A datagram that waits alone goes from a client straight to the server, and its answer back: a quiet round of two deliveries.
use Rattle.std.proofs.Common.{◌≡◌, ◌∙◌, ap, sym, subst, ℕ, suc, ◌+◌, ◌≤◌, ◌<◌, Bool, true, false, List, [], ◌∷◌, length, map, Some, refl, arith}
use Rattle.std.specs.Prelude.{slice_get, slice_set}
use Rattle.osc_model.specs.Arrival.{Arrival}
use Rattle.osc_model.specs.declared.node.Draw.{Draw}
use Rattle.osc_model.specs.declared.node.Moment.{Moment}
use Rattle.osc_model.specs.declared.node.Peer.{Peer}
use Rattle.osc_model.specs.declared.step.Datagram.{Datagram}
use Rattle.osc_model.specs.declared.step.Step.{Step}
use Rattle.osc_model.specs.{same_peer}
use Rattle.osc_ccm.specs.{Sealings, Tags}
use Rattle.osc_run.specs.{Noted, by_client, by_server}
use Rattle.osc_server.specs.{Hears as ServerHears}
use Rattle.osc_server.specs.State.{State as Server}
use Rattle.osc_client.specs.{Hears as ClientHears}
use Rattle.osc_client.specs.State.{State as Client}
use Rattle.osc_world.specs.{sent_from, NodeStates, StandApart, IsHeardByClient, IsHeardByServer, queue, Deliveries, Rounds, next_draw, IsRound, Happens, State}
use Rattle.osc_world.specs.declared.log.SentDatagram.{SentDatagram}
use Rattle.osc_world.specs.declared.nodes.Placed.{Placed}
use Rattle.osc_world.proofs.Deliveries.{client_hears, delivery_of, over, server_hears, still}
use Rattle.osc_world.proofs.Rounds.{none_lost}

-- from here to there
abbrev pub from_to : Peer → Peer → List ℕ → SentDatagram
from_to from to bytes = record { from = from; to = to; bytes = bytes; waits = true }

-- a draw of 32 bytes
abbrev pub IsWhole : Draw → Type 0
IsWhole draw = length draw.0 ≡ 32

-- these bytes come from there
abbrev pub coming_from : Moment → Peer → Draw → List ℕ → Arrival (List ℕ)
coming_from at from draw bytes = record { at = at; from = from; draw = draw; what = bytes }

-- the server's step sends one datagram to the client, which sends nothing when that comes
pub record IsAnsweredBack (is_sealing : Sealings) (now : Moment) (client : Client) (at server_at : Peer) (step : Step) : Type 0 where
  pub answer : List ℕ
  pub out : step.out ≡ record { to = at; bytes = answer } ∷ []
  pub silent : (draw : Draw) (last : Step) (after : Client) → ClientHears is_sealing client (coming_from now server_at draw answer) last after → last.out ≡ []

module _ (is_sealing : Sealings) (IsGood : Draw → Type 0) (deliveries : Deliveries) (number : ℕ) (placed : Placed Client) (nodes : NodeStates) (bytes : List ℕ)
    (law : (draw : Draw) (step : Step) (after : Server) → IsGood draw → ServerHears is_sealing nodes.server (coming_from deliveries.at placed.at draw bytes) step after
    → IsAnsweredBack is_sealing deliveries.at placed.node placed.at nodes.server_at step) where
  -- the two steps, and what is left of them
  pub record IsStraight (begun new : State) (is_quiet : Bool) : Type 0 where
    pub draw : Draw
    pub good : IsGood draw
    pub serving : Step
    pub server : Server
    pub served : ServerHears is_sealing nodes.server (coming_from deliveries.at placed.at draw bytes) serving server
    pub client_draw : Draw
    pub taking : Step
    pub client : Client
    pub taken : ClientHears is_sealing placed.node (coming_from deliveries.at nodes.server_at client_draw (law draw serving server good served).answer) taking client
    pub nodes_are : new.nodes ≡ record nodes { server = server; clients = slice_set nodes.clients number (record placed { node = client }) }
    pub steps : new.steps ≡ by_client number false taking.notes ∷ by_server serving.notes ∷ begun.steps
    pub round : IsRound 2 begun is_quiet new

  module _ (tag : Tags) (itself : (a : Peer) → same_peer a a ≡ true) (left : ℕ) (begun new : State) (is_quiet : Bool)
      (good : (event : ℕ) → length begun.records ≤ event → event < length new.records → IsGood (deliveries.drawn event))
      (nodes_is : begun.nodes ≡ nodes)
      (apart : StandApart begun.nodes)
      (there : slice_get nodes.clients number ≡ Some placed)
      (alone : queue begun ≡ from_to placed.at nodes.server_at bytes ∷ [])
      (rounds : Rounds (Happens is_sealing tag) deliveries (suc (suc left)) begun is_quiet new) where
    abbrev one : SentDatagram
    one = from_to placed.at nodes.server_at bytes

    first : (next : State) × IsHeardByServer is_sealing (delivery_of deliveries begun one []) begun next × Rounds (Happens is_sealing tag) deliveries (suc left) next is_quiet new
    first = server_hears is_sealing tag deliveries itself (suc left) begun one [] is_quiet new apart alone rounds (sym (ap (λ (n : NodeStates). n.server_at) nodes_is))

    abbrev s : IsHeardByServer is_sealing (delivery_of deliveries begun one []) begun first.0
    s = first.1

    served : ServerHears is_sealing nodes.server (coming_from deliveries.at placed.at (next_draw deliveries begun) bytes) s.step s.server
    served = subst (λ (n : NodeStates). ServerHears is_sealing n.server (coming_from deliveries.at placed.at (next_draw deliveries begun) bytes) s.step s.server) nodes_is s.hears

    is_good : IsGood (next_draw deliveries begun)
    is_good = good (length begun.records) (omega arith) (omega (arith, s.kept.records, none_lost is_sealing tag deliveries (suc left) first.0 is_quiet new first.2))

    abbrev answered : IsAnsweredBack is_sealing deliveries.at placed.node placed.at nodes.server_at s.step
    answered = law (next_draw deliveries begun) s.step s.server is_good served

    abbrev two : SentDatagram
    two = from_to nodes.server_at placed.at answered.answer

    nodes_2 : first.0.nodes ≡ record nodes { server = s.server }
    nodes_2 = s.nodes ∙ ap (λ (n : NodeStates). record n { server = s.server }) nodes_is

    alone_2 : queue first.0 ≡ two ∷ []
    alone_2 =
        s.kept.waits
        ∙ ap (λ (n : NodeStates). map (sent_from n.server_at) s.step.out) nodes_is
        ∙ ap (λ (out : List Datagram). map (sent_from nodes.server_at) out) answered.out

    second : (next : State) × IsHeardByClient is_sealing number placed (delivery_of deliveries first.0 two []) first.0 next × Rounds (Happens is_sealing tag) deliveries left next is_quiet new
    second =
        client_hears is_sealing tag deliveries itself left first.0 two [] is_quiet new s.kept.apart alone_2 first.2 number placed
        (ap (λ (n : NodeStates). slice_get n.clients number) nodes_2 ∙ there) refl

    abbrev c : IsHeardByClient is_sealing number placed (delivery_of deliveries first.0 two []) first.0 second.0
    c = second.1

    nodes_3 : second.0.nodes ≡ record nodes { server = s.server; clients = slice_set nodes.clients number (record placed { node = c.client }) }
    nodes_3 = c.nodes ∙ ap (λ (n : NodeStates). record n { clients = slice_set n.clients number (record placed { node = c.client }) }) nodes_2

    none_3 : queue second.0 ≡ []
    none_3 = c.kept.waits ∙ ap (λ (out : List Datagram). map (sent_from placed.at) out) (answered.silent (next_draw deliveries first.0) c.step c.client c.hears)

    ends : (is_quiet ≡ true) × (new ≡ second.0)
    ends = over is_sealing tag deliveries left second.0 is_quiet new none_3 second.2

    pub straight : IsStraight begun new is_quiet
    straight = record {
      draw = next_draw deliveries begun;
      good = is_good;
      serving = s.step;
      server = s.server;
      served = served;
      client_draw = next_draw deliveries first.0;
      taking = c.step;
      client = c.client;
      taken = c.hears;
      nodes_are = ap (λ (w : State). w.nodes) ends.1 ∙ nodes_3;
      steps = ap (λ (w : State). w.steps) ends.1 ∙ c.kept.steps ∙ ap (λ (l : List Noted). by_client number false c.step.notes ∷ l) s.kept.steps;
      round = record {
        count = ap (λ (w : State). length w.records) ends.1 ∙ c.kept.records ∙ ap (λ (n : ℕ). n + 1) s.kept.records ∙ omega arith;
        quiet = ends.0;
        still = still new (ap queue ends.1 ∙ none_3);
      };
    }
