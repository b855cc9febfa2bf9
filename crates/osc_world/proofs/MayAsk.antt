-- After an exchanged round the client may ask, and after an answered one.
use Rattle.std.proofs.Common.{◌≡◌, ◌∙◌, sym, ap, subst, refl, ℕ, ◌+◌, ◌≤◌, ◌%◌, Bool, List, Some, None, arith}
use Rattle.std.specs.Prelude.{◌≢◌, slice_get}
use Rattle.std.proofs.lemmas.List.Elements.{All-nil}
use Rattle.osc_model.specs.declared.node.Draw.{Draw}
use Rattle.osc_model.specs.declared.node.Moment.{Moment}
use Rattle.osc_model.specs.declared.node.Peer.{Peer}
use Rattle.osc_dedup.specs.{looked}
use Rattle.osc_message.specs.{own_id}
use Rattle.osc_context.specs.{greatest_number}
use Rattle.osc_window.specs.{IsFresh}
use Rattle.osc_authz.specs.{IsLive}
use Rattle.osc_server.specs.{standing_of}
use Rattle.osc_rounds.specs.{OpenedRequest, MayAsk}
use Rattle.osc_scope.specs.{Entry}
use Rattle.osc_client.specs.State.{State as Client}
use Rattle.osc_world.specs.{ClientRound, GoesTheSameWay, HasAnswered, HasMade, IsReady, IsRound, LeavesUnheard, State}
use Rattle.osc_world.specs.Ready as ready_as
use Rattle.osc_world.specs.declared.nodes.Placed.{Placed}

next_differs : (id : ℕ) → (id + 1) % 65536 ≢ id
next_differs id same = omega (arith, same)

pub may_ask : (old new : State) (client : ℕ) (now later : Moment) (entries : List Entry) (made : HasMade old client now entries new)
    → IsLive (standing_of new.nodes.server later) made.held
    → MayAsk made.placed.node new.nodes.server later (record { name = made.held.name; next = 0 }) made.held
may_ask old new client now later entries made live = record {
  idle = made.idle;
  has = made.at_client;
  here = made.at_server.here;
  one_name = refl;
  live = live;
  number = omega arith;
  fresh = subst (λ (window : List ℕ). IsFresh window 0) (sym made.at_server.window) (All-nil _);
}

-- what a round of two deliveries leaves is ready for another straight one
ready_again : (begun old new : State) (quiet : Bool) (client : ℕ) (before placed : Placed Client) (draw : Draw) (next : ClientRound)
    → IsRound 2 begun quiet new → slice_get new.nodes.clients client ≡ Some placed → GoesTheSameWay before placed → new.nodes.server_at ≡ old.nodes.server_at
    → before.node.origin ≡ None → before.node.next_hop ≡ old.nodes.server_at
    → LeavesUnheard old new draw before placed
    → looked next.at before.at ((own_id draw before.node.endpoint.next_id + 1) % 65536) old.nodes.server.endpoint.seen ≡ None
    → IsReady new client placed next 2
ready_again begun old new quiet client before placed draw next round is_there way server_at direct next_hop leaves unheard =
    let round_id : ℕ = own_id draw before.node.endpoint.next_id in
    let next_id : ℕ = (round_id + 1) % 65536 in
    let id_is : own_id next.draw placed.node.endpoint.next_id ≡ next_id = ap (own_id next.draw) leaves.next_id in
    let at_new : looked next.at before.at next_id new.nodes.server.endpoint.seen ≡ None = leaves.unheard next.at next_id (next_differs round_id) unheard in
    record {
      still = round.still;
      here = is_there;
      way = ready_as.Way.straight refl
          (record {
            direct = way.origin ∙ direct;
            next_hop = way.next_hop ∙ next_hop ∙ sym server_at;
            unheard = ap (λ (id : ℕ). looked next.at placed.at id new.nodes.server.endpoint.seen) id_is
                ∙ ap (λ (at : Peer). looked next.at at next_id new.nodes.server.endpoint.seen) way.at
                ∙ at_new;
          });
    }

pub ready_to_ask : (begun old new : State) (quiet : Bool) (client : ℕ) (before : Placed Client) (now : Moment) (draw : Draw) (entries : List Entry)
    (made : HasMade old client now entries new) (next : ClientRound)
    → IsRound 2 begun quiet new → slice_get old.nodes.clients client ≡ Some before
    → before.node.origin ≡ None → before.node.next_hop ≡ old.nodes.server_at
    → LeavesUnheard old new draw before made.placed
    → looked next.at before.at ((own_id draw before.node.endpoint.next_id + 1) % 65536) old.nodes.server.endpoint.seen ≡ None
    → IsReady new client made.placed next 2
ready_to_ask begun old new quiet client before now draw entries made next round here direct next_hop leaves unheard =
    ready_again begun old new quiet client before made.placed draw next round made.is_there (made.way before here) made.server_at direct next_hop leaves unheard

-- ---- after an answered one

pub may_ask_again : (old new : State) (client : ℕ) (now later : Moment) (request : OpenedRequest) (answered : HasAnswered old client now request new)
    → IsLive (standing_of new.nodes.server later) answered.after → request.number + 1 ≤ greatest_number → IsFresh request.held.window (request.number + 1)
    → MayAsk answered.placed.node new.nodes.server later (record { name = request.held.name; next = request.number + 1 }) answered.after
may_ask_again old new client now later request answered live few fresh = record {
  idle = answered.idle;
  has = answered.at_client;
  here = answered.at_server.here;
  one_name = answered.at_server.name;
  live = live;
  number = few;
  fresh = answered.at_server.fresh (request.number + 1) (omega arith) fresh;
}

pub ready_to_ask_again : (asked old new : State) (quiet : Bool) (client : ℕ) (before : Placed Client) (now : Moment) (draw : Draw) (request : OpenedRequest)
    (answered : HasAnswered old client now request new) (next : ClientRound)
    → IsRound 2 asked quiet new → slice_get old.nodes.clients client ≡ Some before
    → before.node.origin ≡ None → before.node.next_hop ≡ old.nodes.server_at
    → LeavesUnheard old new draw before answered.placed
    → looked next.at before.at ((own_id draw before.node.endpoint.next_id + 1) % 65536) old.nodes.server.endpoint.seen ≡ None
    → IsReady new client answered.placed next 2
ready_to_ask_again asked old new quiet client before now draw request answered next round here direct next_hop leaves unheard =
    ready_again asked old new quiet client before answered.placed draw next round answered.is_there (answered.way before here) answered.server_at direct next_hop leaves unheard
