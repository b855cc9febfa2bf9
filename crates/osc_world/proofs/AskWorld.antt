-- A request is asked, and a quiet round serves and answers it: straight to the server, in two deliveries.
use Rattle.std.proofs.Common.{◌≡◌, ◌∙◌, sym, ap, subst, refl, ℕ, suc, ◌+◌, ◌%◌, Bool, true, false, List, [], ◌∷◌, ◌++◌, map, Option, Some, None, append-nil}
use Rattle.std.specs.Prelude.{◌≢◌, slice_get, slice_set, option_to_list}
use Rattle.std.proofs.lemmas.Option.{same_Some}
use Rattle.osc_model.specs.{apply_read, same_peer}
use Rattle.osc_model.specs.declared.node.Draw.{Draw}
use Rattle.osc_model.specs.declared.node.Moment.{Moment}
use Rattle.osc_model.specs.declared.node.Peer.{Peer}
use Rattle.osc_model.specs.declared.reply.Reply.{Reply}
use Rattle.osc_model.specs.declared.step.ClientResult.TheVariants as result
use Rattle.osc_model.specs.declared.step.Datagram.{Datagram}
use Rattle.osc_model.specs.declared.step.Entry.{Entry}
use Rattle.osc_model.specs.declared.step.Step.{Step}
use Rattle.osc_coap.specs.{spelling}
use Rattle.osc_dedup.specs.{looked}
use Rattle.osc_message.specs.{own_id, datagram}
use Rattle.osc_ccm.specs.{Sealings, Tags}
use Rattle.osc_authz.specs.{ClientContextState, In, IsTable, contexts, holder_at, taking}
use Rattle.osc_authz.specs.SecurityContext.{SecurityContext}
use Rattle.osc_authz.specs.declared.token_entry.TokenEntry.{TokenEntry}
use Rattle.osc_run.specs.{request_note, history, Noted, by_client, by_server, Replies as AppliesTo, Minted}
use Rattle.osc_run.specs.Premise.{Premise}
use Rattle.osc_options.specs.{read_request}
use Rattle.osc_server.specs.{standing_of, Hears as ServerHears}
use Rattle.osc_server.specs.State.{State as Server}
use Rattle.osc_client.specs.{IsLawfulClient, Asked, Asks}
use Rattle.osc_client.specs.State.{State as Client}
use Rattle.osc_rounds.specs.{IsAskedAndAnswered, IsLawfulServer, IsServedAndAnswered, StraightRequest, asked_text, IsAnswered, OpenedRequest, IsStraight, MayAsk, AreAmongQuiet, AreNotesOfRequest}
use Rattle.osc_world.specs.{AreLawfulClients, sent_from, NodeStates, StandApart, queue, Deliveries, Rounds, AskedRequest, GoesTheSameWay, HasAnswered, HoldsStill, IsRound, KeepsThePremise, LeavesUnheard, asking, Happens, State}
use Rattle.osc_world.specs.declared.nodes.Placed.{Placed}
use Rattle.osc_world.proofs.Asked.{IsAsked, is_asked, lawful_after}
use Rattle.osc_world.proofs.Deliveries.{still_minted}
use Rattle.osc_world.proofs.Premises.{asks_notes, keeps, these_three}
use Rattle.osc_world.proofs.Slots.{got_back}
use Rattle.osc_world.proofs.Straight.{IsAnsweredBack, IsStraight as IsRoundOfTwo, coming_from, from_to, straight as round_of_two}
use Rattle.osc_world.proofs.StillHeld.{TakesNumbers, holds_still}
use Rattle.osc_world.proofs.Way.{asks_id, asks_same, hears_id}

-- what is assumed goes on over a request's round
abbrev pub KeepsByNotes : Type 0
KeepsByNotes = (minted : List Minted) (old all : List Noted) (table : List TokenEntry) (now : Moment) (request : OpenedRequest) (reply : Reply) (asked served answered : Noted)
    → IsTable table → In request.held (contexts table) → AreNotesOfRequest now request reply asked.notes served.notes answered.notes
    → AreAmongQuiet (answered ∷ served ∷ asked ∷ []) all → Premise minted old → Premise minted (all ++ old)

module _ (is_sealing : Sealings) (tag : Tags) where
  -- a request that goes straight to the server is answered
  abbrev pub AnswersStraight : Type 0
  AnswersStraight = (client asked : Client) (server : Server) (asks : Asked) (now : Moment) (at server_at : Peer) (context : ClientContextState) (held : SecurityContext) (first : Step)
      → IsLawfulServer server → IsLawfulClient asked
      → IsStraight client server now asks.draw at server_at → MayAsk client server now context held
      → first.notes.result ≢ Some (result.Refused 14)
      → Asks is_sealing tag client asks first asked
      → IsAskedAndAnswered is_sealing
      (record { asked = asked; server = server; at = at; server_at = server_at; now = now; held = held; number = context.next; text = asked_text client asks.draw asks.request })
      client asks.draw first

  -- what was asked, as it is served
  abbrev pub opened_of : (deliveries : Deliveries) (count : ℕ) (w1 : State) → AskedRequest is_sealing tag deliveries count w1 → OpenedRequest
  opened_of deliveries count w1 it = record { held = it.held; number = it.context.next; text = asked_text it.placed.node it.what.draw it.what.request }

  module _ (itself : (a : Peer) → same_peer a a ≡ true) (law : AnswersStraight) (premises : KeepsByNotes) (takes_numbers : TakesNumbers)
      (deliveries : Deliveries) (count : ℕ) (w1 new : State) (it : AskedRequest is_sealing tag deliveries count w1) (left : ℕ) (is_quiet : Bool)
      (apart : StandApart w1.nodes)
      (lawful : IsLawfulServer w1.nodes.server)
      (lawful_clients : AreLawfulClients w1.nodes.clients)
      (goes : IsStraight it.placed.node it.before.nodes.server deliveries.at it.what.draw it.placed.at it.before.nodes.server_at)
      (rounds : Rounds (Happens is_sealing tag) deliveries (suc (suc left)) w1 is_quiet new) where
    abbrev old : State
    old = it.before

    abbrev number : ℕ
    number = it.client

    abbrev placed : Placed Client
    placed = it.placed

    abbrev draw : Draw
    draw = it.what.draw

    abbrev context : ClientContextState
    context = it.context

    abbrev held : SecurityContext
    held = it.held

    abbrev now : Moment
    now = deliveries.at

    asks : IsAsked is_sealing tag deliveries count w1 it
    asks = is_asked is_sealing tag deliveries count w1 it

    abbrev request : OpenedRequest
    request = opened_of deliveries count w1 it

    abbrev text : List ℕ
    text = request.text

    abbrev after : Placed Client
    after = record placed { node = asks.client }

    abbrev nodes : NodeStates
    nodes = record old.nodes { clients = slice_set old.nodes.clients number after }

    lawful_server : IsLawfulServer old.nodes.server
    lawful_server = subst IsLawfulServer (ap (λ (n : NodeStates). n.server) asks.nodes) lawful

    abbrev way : StraightRequest
    way = record {
      asked = asks.client;
      server = old.nodes.server;
      at = placed.at;
      server_at = old.nodes.server_at;
      now = now;
      held = held;
      number = context.next;
      text = text;
    }

    is : IsAskedAndAnswered is_sealing way placed.node draw asks.step
    is =
        law placed.node asks.client old.nodes.server it.what now placed.at old.nodes.server_at context held asks.step
        lawful_server (lawful_after number placed asks.client old w1 it.ready.here asks.nodes lawful_clients) goes it.may asks.fits asks.asks

    alone : queue w1 ≡ from_to placed.at old.nodes.server_at (spelling is.message) ∷ []
    alone =
        asks.waits
        ∙ ap (λ (out : List Datagram). map (sent_from placed.at) out) is.out
        ∙ ap (λ (to : Peer). from_to placed.at to (spelling is.message) ∷ []) goes.next_hop

    -- ---- it comes to the server, and its answer to the client

    abbrev IsAny : Draw → Type 0
    IsAny any = Unit {0}

    abbrev coming : (server_draw : Draw) (step : Step) (served : Server) → IsAny server_draw
        → ServerHears is_sealing old.nodes.server (coming_from now placed.at server_draw (spelling is.message)) step served
        → IsAnsweredBack is_sealing now asks.client placed.at old.nodes.server_at step
    coming server_draw step served good hears = record {
      answer = spelling (is.served server_draw step served hears).answer;
      out = (is.served server_draw step served hears).out;
      silent = λ client_draw last client heard. ap (λ (s : Step). s.out) ((is.served server_draw step served hears).answered client_draw last client heard).told;
    }

    there : slice_get nodes.clients number ≡ Some after
    there = got_back old.nodes.clients number placed after it.ready.here

    round : IsRoundOfTwo is_sealing IsAny deliveries number after nodes (spelling is.message) coming w1 new is_quiet
    round =
        round_of_two is_sealing IsAny deliveries number after nodes (spelling is.message) coming tag itself left w1 new is_quiet
        (λ event least below. tt) asks.nodes apart there alone rounds

    abbrev served : IsServedAndAnswered is_sealing way round.serving round.server
    served = is.served round.draw round.serving round.server round.served

    answered : IsAnswered asks.client held.name context.next served.reply round.taking round.client
    answered = served.answered round.client_draw round.taking round.client round.taken

    server_is : new.nodes.server ≡ round.server
    server_is = ap (λ (n : NodeStates). n.server) round.nodes_are

    abbrev last : Placed Client
    last = record after { node = round.client }

    last_there : slice_get new.nodes.clients number ≡ Some last
    last_there = ap (λ (n : NodeStates). slice_get n.clients number) round.nodes_are ∙ got_back nodes.clients number after last there

    -- ---- what is kept of it

    still_held : HoldsStill new.nodes.server held context.next (taking context.next held)
    still_held =
        subst (λ (s : Server). HoldsStill s held context.next (taking context.next held)) (sym server_is)
        (holds_still takes_numbers (standing_of old.nodes.server now) old.nodes.server round.server held context.next lawful_server.table it.may.here served.kept)

    same_way : (before : Placed Client) → slice_get old.nodes.clients number ≡ Some before → GoesTheSameWay before last
    same_way before stood =
        let same : placed ≡ before = same_Some placed before (sym it.ready.here ∙ stood) in
        let sent = asks_same is_sealing tag placed.node it.what asks.step asks.client asks.asks in
        subst (λ (p : Placed Client). GoesTheSameWay p last) same
        (record { at = refl; next_hop = answered.next_hop ∙ sent.0; origin = answered.origin ∙ sent.1 })

    abbrev entry : Entry
    entry = record { context = held.name; number = context.next; plaintext = text; request = read_request text; moment = now; reply = served.reply }

    abbrev all : List Noted
    all = by_client number false round.taking.notes ∷ by_server round.serving.notes ∷ by_client number false asks.step.notes ∷ []

    steps_are : new.steps ≡ all ++ old.steps
    steps_are = round.steps ∙ ap (λ (l : List Noted). by_client number false round.taking.notes ∷ by_server round.serving.notes ∷ l) asks.steps

    history_is : history new.steps ≡ history old.steps ++ entry ∷ []
    history_is =
        ap history steps_are
        ∙ ap (λ (last : Option Entry). ((history old.steps ++ option_to_list asks.step.notes.served) ++ option_to_list round.serving.notes.served) ++ option_to_list last) (ap (λ (s : Step). s.notes.served) answered.told)
        ∙ append-nil ((history old.steps ++ option_to_list asks.step.notes.served) ++ option_to_list round.serving.notes.served)
        ∙ ap (λ (first : Option Entry). (history old.steps ++ option_to_list first) ++ option_to_list round.serving.notes.served) is.unserved
        ∙ ap (λ (l : List Entry). l ++ option_to_list round.serving.notes.served) (append-nil (history old.steps))
        ∙ ap (λ (middle : Option Entry). history old.steps ++ option_to_list middle) (ap (λ n. n.served) served.entry)

    among : AreAmongQuiet all all
    among = these_three (by_client number false round.taking.notes) (by_server round.serving.notes) (by_client number false asks.step.notes)

    notes_are : AreNotesOfRequest now request served.reply asks.step.notes round.serving.notes round.taking.notes
    notes_are = record {
      asked_is = asks_notes is_sealing tag placed.node asks.client it.what asks.step (request_note held.name context.next text) asks.asks is.sealed;
      holder = holder_at held.name.client_id old.nodes.server.desk.table;
      served_is = served.entry;
      answered_is = ap (λ (s : Step). s.notes) answered.told;
    }

    goes_on : KeepsThePremise old new
    goes_on =
        keeps old new (all ++ old.steps) (still_minted is_sealing tag deliveries (suc (suc left)) old w1 is_quiet new (asking number it.what) it.happens rounds) steps_are
        (premises old.minted old.steps all old.nodes.server.desk.table now request served.reply
        (by_client number false asks.step.notes) (by_server round.serving.notes) (by_client number false round.taking.notes)
        lawful_server.table it.may.here notes_are among)

    pub answered_straight : IsRound 2 w1 is_quiet new × HasAnswered old number now request new × KeepsThePremise old new
    answered_straight = (
      round.round,
      record {
        reply = served.reply;
        applied = subst (λ (s : Server). AppliesTo old.nodes.server.tree (apply_read old.nodes.server.desk.rules.revoked old.nodes.server.tree held.scope (read_request text)) served.reply s.tree) (sym server_is) served.applied;
        entry = history_is;
        asked = asks.step.notes;
        served = round.serving.notes;
        answered = round.taking.notes;
        all = all;
        among = among;
        steps = steps_are;
        learnt = ap (λ (s : Step). s.notes.result) answered.told;
        after = taking context.next held;
        at_server = still_held;
        placed = last;
        is_there = last_there;
        at_client = answered.context ∙ is.context;
        idle = answered.waiting;
        way = same_way;
        server_at = ap (λ (n : NodeStates). n.server_at) round.nodes_are;
      },
      goes_on,
    )

    unheard_of : (later : Moment) (id : ℕ) → id ≢ own_id draw placed.node.endpoint.next_id → looked later placed.at id old.nodes.server.endpoint.seen ≡ None
        → looked later placed.at id new.nodes.server.endpoint.seen ≡ None
    unheard_of later id other before =
        ap (λ (s : Server). looked later placed.at id s.endpoint.seen) server_is
        ∙ is.heard round.draw round.serving round.server round.served later id other before

    next_id_is : round.client.endpoint.next_id ≡ Some ((own_id draw placed.node.endpoint.next_id + 1) % 65536)
    next_id_is =
        hears_id is_sealing asks.client (coming_from now old.nodes.server_at round.client_draw (spelling served.answer)) round.taking round.client round.taken
        ∙ asks_id is_sealing tag placed.node it.what asks.step asks.client (datagram placed.node.next_hop is.message) asks.asks is.out

    pub left_unheard : (standing : Placed Client) → slice_get new.nodes.clients number ≡ Some standing → LeavesUnheard old new draw placed standing
    left_unheard standing stands =
        let same : last ≡ standing = same_Some last standing (sym last_there ∙ stands) in
        subst (λ (p : Placed Client). LeavesUnheard old new draw placed p) same (record { next_id = next_id_is; unheard = unheard_of })
