-- A request is asked, and a quiet round serves and answers it: through a proxy, in six deliveries.
use Rattle.std.proofs.Common.{◌≡◌, ◌∙◌, sym, ap, subst, refl, ℕ, suc, ◌-◌, ◌≤◌, Bool, true, false, List, [], ◌∷◌, ◌++◌, length, map, Option, Some, None, arith, append-nil}
use Rattle.std.specs.Prelude.{◌≢◌, slice_get, slice_set, option_to_list}
use Rattle.std.proofs.lemmas.Option.{same_Some}
use Rattle.osc_model.specs.{apply_read, quiet, same_peer}
use Rattle.osc_model.specs.StepNotes.{StepNotes}
use Rattle.osc_model.specs.declared.node.Draw.{Draw}
use Rattle.osc_model.specs.declared.node.Moment.{Moment}
use Rattle.osc_model.specs.declared.node.Peer.{Peer}
use Rattle.osc_model.specs.declared.reply.Reply.{Reply}
use Rattle.osc_model.specs.declared.step.ClientResult.TheVariants as result
use Rattle.osc_model.specs.declared.step.Datagram.{Datagram}
use Rattle.osc_model.specs.declared.step.Entry.{Entry}
use Rattle.osc_model.specs.declared.step.Step.{Step}
use Rattle.osc_coap.specs.{spelling}
use Rattle.osc_coap.specs.Message.{Message}
use Rattle.osc_message.specs.{datagram, empty_acknowledgement}
use Rattle.osc_ccm.specs.{Sealings, Tags}
use Rattle.osc_authz.specs.{ClientContextState, holder_at, taking}
use Rattle.osc_authz.specs.SecurityContext.{SecurityContext}
use Rattle.osc_run.specs.{request_note, history, Noted, by_client, by_proxy, by_server, Replies as AppliesTo}
use Rattle.osc_options.specs.{read_request}
use Rattle.osc_server.specs.{standing_of}
use Rattle.osc_server.specs.State.{State as Server}
use Rattle.osc_client.specs.{IsLawfulClient, Asked, Asks}
use Rattle.osc_client.specs.State.{State as Client}
use Rattle.osc_proxy.specs.{Hears as ProxyHears, IsAtRest, IsLawfulProxy}
use Rattle.osc_proxy.specs.State.{State as Proxy}
use Rattle.osc_rounds.specs.{IsLawfulServer, asked_text, IsAnsweredAndEnds, IsAskedAndServedThrough, IsBroughtBackAndAnswered, IsPassedOnAndServed, IsServedAndBroughtBack, IsSettledAndServed, OnItsWay, forwarded_on, id_back, passage_of, OpenedRequest, Hops, IsThrough, MayAsk, AreAmongQuiet, AreNotesOfRequest}
use Rattle.osc_world.specs.{AreLawfulClients, AreLawfulProxies, sent_from, NodeStates, StandApart, queue, AreWhole, Deliveries, Rounds, next_draw, AskedRequest, ClientRound, GoesTheSameWay, HasAnswered, HoldsStill, IsRound, KeepsThePremise, LeavesUnheard, Way, asking, hops_through, round_of, Happens, State}
use Rattle.osc_world.specs.Ready as ready_as
use Rattle.osc_world.specs.declared.nodes.Placed.{Placed}
use Rattle.osc_world.proofs.AskWorld.{AnswersStraight, KeepsByNotes, answered_straight, left_unheard, opened_of}
use Rattle.osc_world.proofs.Asked.{IsAsked, is_asked, lawful_after, one_goes_out}
use Rattle.osc_world.proofs.Deliveries.{still_minted}
use Rattle.osc_world.proofs.Premises.{asks_notes, keeps}
use Rattle.osc_world.proofs.Slots.{got_back}
use Rattle.osc_world.proofs.Straight.{IsWhole, coming_from, from_to}
use Rattle.osc_world.proofs.Through.{IsAcknowledged, IsForwarded, IsSentBack, IsServed, IsTaken, IsThrough as IsRoundOfSix, Route, first_is_whole, three_of_seven, through as round_of_six}
use Rattle.osc_world.proofs.StillHeld.{TakesNumbers, holds_still}
use Rattle.osc_world.proofs.Way.{asks_same}

-- ---- what each delivery sends, as the law of the round has it

module _ (is_sealing : Sealings) (way : OnItsWay) where
  abbrev takes : (brought : Proxy) (reply : Reply) (fifth : Step) (answered : Client) → IsAnsweredAndEnds is_sealing way brought reply fifth answered
      → IsTaken is_sealing way.now way.at way.proxy_at way.server_at brought fifth
  takes brought reply fifth answered is = record {
    taken = spelling (empty_acknowledgement (id_back way));
    out = ap (λ (s : Step). s.out) is.is_answered.told;
    silent = λ draw last after hears. ap (λ (s : Step). s.out) (is.ends draw last after hears).told;
  }

  abbrev brings : (settled : Client) (reply : Reply) (fourth : Step) (brought : Proxy) → IsBroughtBackAndAnswered is_sealing way settled reply fourth brought
      → IsSentBack is_sealing way.now way.at way.proxy_at way.server_at settled brought fourth
  brings settled reply fourth brought is = record {
    answer = spelling is.back;
    out = ap (λ (s : Step). s.out) is.out;
    taken = λ draw next after hears. takes brought reply next after (is.answered draw next after hears);
  }

  abbrev serves : (settled : Client) (passed : Proxy) (third : Step) (served : Server) → IsServedAndBroughtBack is_sealing way settled passed third served
      → IsServed is_sealing way.now way.at way.proxy_at way.server_at settled passed third
  serves settled passed third served is = record {
    reply = spelling is.response;
    out = is.out;
    back = λ draw next after hears. brings settled is.reply next after (is.brought draw next after hears);
  }

  abbrev settles : (passed : Proxy) (second : Step) (settled : Client) → IsSettledAndServed is_sealing way passed second settled
      → IsAcknowledged is_sealing way.now way.at way.proxy_at way.server_at settled way.server passed (spelling (forwarded_on way)) second
  settles passed second settled is = record {
    silent = ap (λ (s : Step). s.out) is.told;
    served = λ draw next after whole hears. serves settled passed next after (is.served draw next after hears);
  }

  abbrev passes : (step : Step) (passed : Proxy) → IsPassedOnAndServed is_sealing way step passed
      → IsForwarded is_sealing way.now way.at way.proxy_at way.server_at way.asked way.server passed step
  passes step passed is = record {
    acknowledgement = spelling (empty_acknowledgement way.message.id);
    forwarded = spelling (forwarded_on way);
    out = ap (λ (s : Step). s.out) is.out;
    acknowledged = λ draw next after hears. settles passed next after (is.settled draw next after hears);
  }

-- ---- one entry in seven steps

no_entry : (one : Noted) (old : List Noted) → one.notes.served ≡ None → history (one ∷ old) ≡ history old
no_entry one old none = ap (λ (o : Option Entry). history old ++ option_to_list o) none ∙ append-nil (history old)

one_entry : (one : Noted) (old : List Noted) (entry : Entry) → one.notes.served ≡ Some entry → history (one ∷ old) ≡ history old ++ entry ∷ []
one_entry one old entry some = ap (λ (o : Option Entry). history old ++ option_to_list o) some

entry_of_seven : (asks first settles serves brings takes last : Noted) (old : List Noted) (entry : Entry)
    → asks.notes.served ≡ None → first.notes ≡ quiet → settles.notes ≡ quiet → serves.notes.served ≡ Some entry → brings.notes ≡ quiet
    → takes.notes.served ≡ None → last.notes ≡ quiet
    → history (last ∷ takes ∷ brings ∷ serves ∷ settles ∷ first ∷ asks ∷ old) ≡ history old ++ entry ∷ []
entry_of_seven asks first settles serves brings takes last old entry none quiet_1 quiet_2 some quiet_4 none_5 quiet_6 =
    no_entry last (takes ∷ brings ∷ serves ∷ settles ∷ first ∷ asks ∷ old) (ap (λ (n : StepNotes). n.served) quiet_6)
    ∙ no_entry takes (brings ∷ serves ∷ settles ∷ first ∷ asks ∷ old) none_5
    ∙ no_entry brings (serves ∷ settles ∷ first ∷ asks ∷ old) (ap (λ (n : StepNotes). n.served) quiet_4)
    ∙ one_entry serves (settles ∷ first ∷ asks ∷ old) entry some
    ∙ ap (λ (l : List Entry). l ++ entry ∷ [])
    (no_entry settles (first ∷ asks ∷ old) (ap (λ (n : StepNotes). n.served) quiet_2)
    ∙ no_entry first (asks ∷ old) (ap (λ (n : StepNotes). n.served) quiet_1)
    ∙ no_entry asks old none)

-- ---- the round

-- the way of a request through a proxy, with this message
abbrev pub on_its_way : Client → Proxy → Server → Hops → OpenedRequest → Message → ℕ → OnItsWay
on_its_way asked proxy server hops request message key = record {
  asked = asked;
  proxy = proxy;
  server = server;
  at = hops.at;
  proxy_at = hops.proxy_at;
  server_at = hops.server_at;
  now = hops.now;
  proxy_draw = hops.proxy_draw;
  held = request.held;
  number = request.number;
  text = request.text;
  message = message;
  key = key;
}

module _ (is_sealing : Sealings) (tag : Tags) where
  -- a request that goes through a proxy is answered
  abbrev pub AnswersThrough : Type 0
  AnswersThrough = (client asked : Client) (proxy : Proxy) (server : Server) (asks : Asked) (hops : Hops) (context : ClientContextState) (held : SecurityContext) (first : Step)
      → IsLawfulServer server → IsLawfulProxy proxy → IsLawfulClient asked → length hops.proxy_draw.0 ≡ 32
      → (way : IsThrough client proxy server asks.draw hops) → MayAsk client server hops.now context held
      → first.notes.result ≢ Some (result.Refused 14)
      → Asks is_sealing tag client asks first asked
      → (message : Message)
      × IsAskedAndServedThrough is_sealing
      (on_its_way asked proxy server hops (record { held = held; number = context.next; text = asked_text client asks.draw asks.request }) message way.key)
      client asks.draw asks.request first

  module _ (itself : (a : Peer) → same_peer a a ≡ true) (law : AnswersThrough) (premises : KeepsByNotes) (takes_numbers : TakesNumbers)
      (deliveries : Deliveries) (count : ℕ) (w1 new : State) (begins : AskedRequest is_sealing tag deliveries count w1) (left : ℕ) (is_quiet : Bool)
      (sizes : AreWhole deliveries.drawn w1 new)
      (apart : StandApart w1.nodes)
      (lawful : IsLawfulServer w1.nodes.server)
      (lawful_proxies : AreLawfulProxies w1.nodes.proxies)
      (lawful_clients : AreLawfulClients w1.nodes.clients)
      (proxy_number : ℕ) (proxy : Placed Proxy)
      (proxy_here : slice_get begins.before.nodes.proxies proxy_number ≡ Some proxy)
      (goes : IsThrough begins.placed.node proxy.node begins.before.nodes.server begins.what.draw
      (hops_through proxy begins.before begins.placed (round_of deliveries begins.what.draw w1)))
      (rounds : Rounds (Happens is_sealing tag) deliveries (suc (suc (suc (suc (suc (suc left)))))) w1 is_quiet new) where
    abbrev old : State
    old = begins.before

    abbrev number : ℕ
    number = begins.client

    abbrev placed : Placed Client
    placed = begins.placed

    abbrev draw : Draw
    draw = begins.what.draw

    abbrev context : ClientContextState
    context = begins.context

    abbrev held : SecurityContext
    held = begins.held

    abbrev now : Moment
    now = deliveries.at

    abbrev first : Draw
    first = next_draw deliveries w1

    asks : IsAsked is_sealing tag deliveries count w1 begins
    asks = is_asked is_sealing tag deliveries count w1 begins

    abbrev request : OpenedRequest
    request = opened_of is_sealing tag deliveries count w1 begins

    abbrev text : List ℕ
    text = request.text

    abbrev after : Placed Client
    after = record placed { node = asks.client }

    abbrev nodes : NodeStates
    nodes = record old.nodes { clients = slice_set old.nodes.clients number after }

    there : slice_get nodes.clients number ≡ Some after
    there = got_back old.nodes.clients number placed after begins.ready.here

    abbrev route : Route
    route = record {
      nodes = nodes;
      number = number;
      placed = after;
      there = there;
      proxy_number = proxy_number;
      proxy = proxy;
      proxy_there = proxy_here;
    }

    lawful_server : IsLawfulServer old.nodes.server
    lawful_server = subst IsLawfulServer (ap (λ (n : NodeStates). n.server) asks.nodes) lawful

    lawful_proxy : IsLawfulProxy proxy.node
    lawful_proxy = lawful_proxies proxy_number proxy (ap (λ (n : NodeStates). slice_get n.proxies proxy_number) asks.nodes ∙ proxy_here)

    lawful_client : IsLawfulClient asks.client
    lawful_client = lawful_after number placed asks.client old w1 begins.ready.here asks.nodes lawful_clients

    to_proxy : (message : Message) → asks.step.out ≡ datagram placed.node.next_hop message ∷ [] → queue w1 ≡ from_to placed.at proxy.at (spelling message) ∷ []
    to_proxy message out =
        asks.waits
        ∙ ap (λ (out : List Datagram). map (sent_from placed.at) out) out
        ∙ ap (λ (to : Peer). from_to placed.at to (spelling message) ∷ []) goes.next_hop

    whole : IsWhole first
    whole =
        let one : (message : Message) × (asks.step.out ≡ datagram placed.node.next_hop message ∷ []) =
        one_goes_out is_sealing tag placed.node asks.client begins.what asks.step context begins.may.idle begins.may.has begins.may.number asks.fits asks.asks in
        first_is_whole is_sealing tag deliveries itself route (spelling one.0) (suc (suc (suc (suc (suc left))))) w1 new is_quiet sizes asks.nodes apart (to_proxy one.0 one.1) rounds

    abbrev hops : Hops
    hops = hops_through proxy old placed (round_of deliveries draw w1)

    abbrev way_of : Message → OnItsWay
    way_of message = on_its_way asks.client proxy.node old.nodes.server hops request message goes.key

    it : (message : Message) × IsAskedAndServedThrough is_sealing (way_of message) placed.node draw begins.what.request asks.step
    it =
        law placed.node asks.client proxy.node old.nodes.server begins.what hops context held asks.step
        lawful_server lawful_proxy lawful_client whole goes begins.may asks.fits asks.asks

    abbrev way : OnItsWay
    way = way_of it.0

    abbrev is : IsAskedAndServedThrough is_sealing way placed.node draw begins.what.request asks.step
    is = it.1

    alone : queue w1 ≡ from_to placed.at proxy.at (spelling it.0) ∷ []
    alone = asks.waits ∙ ap (λ (out : List Datagram). map (sent_from placed.at) out) is.out

    -- ---- there and back

    abbrev coming : (step : Step) (passed : Proxy) → IsWhole first → ProxyHears proxy.node (coming_from now placed.at first (spelling it.0)) step passed
        → IsForwarded is_sealing now placed.at proxy.at old.nodes.server_at asks.client old.nodes.server passed step
    coming step passed good hears = passes is_sealing way step passed (is.passed step passed hears)

    round : IsRoundOfSix is_sealing deliveries w1 route (spelling it.0) coming new is_quiet
    round = round_of_six is_sealing deliveries w1 route (spelling it.0) coming tag itself left new is_quiet sizes asks.nodes apart alone rounds

    abbrev passed : IsPassedOnAndServed is_sealing way round.step_1 round.proxy_1
    passed = is.passed round.step_1 round.proxy_1 round.hears_1

    abbrev settled : IsSettledAndServed is_sealing way round.proxy_1 round.step_2 round.client_2
    settled = passed.settled round.draw_2 round.step_2 round.client_2 round.hears_2

    abbrev served : IsServedAndBroughtBack is_sealing way round.client_2 round.proxy_1 round.step_3 round.server_3
    served = settled.served round.draw_3 round.step_3 round.server_3 round.hears_3

    abbrev brought : IsBroughtBackAndAnswered is_sealing way round.client_2 served.reply round.step_4 round.proxy_4
    brought = served.brought round.draw_4 round.step_4 round.proxy_4 round.hears_4

    abbrev answered : IsAnsweredAndEnds is_sealing way round.proxy_4 served.reply round.step_5 round.client_5
    answered = brought.answered round.draw_5 round.step_5 round.client_5 round.hears_5

    ended : IsAtRest proxy.node (passage_of way) round.step_6 round.proxy_6
    ended = answered.ends round.draw_6 round.step_6 round.proxy_6 round.hears_6

    -- ---- what is kept of it

    quiet_1 : round.step_1.notes ≡ quiet
    quiet_1 = ap (λ (s : Step). s.notes) passed.out

    quiet_2 : round.step_2.notes ≡ quiet
    quiet_2 = ap (λ (s : Step). s.notes) settled.told

    quiet_4 : round.step_4.notes ≡ quiet
    quiet_4 = ap (λ (s : Step). s.notes) brought.out

    quiet_6 : round.step_6.notes ≡ quiet
    quiet_6 = ap (λ (s : Step). s.notes) ended.told

    abbrev entry : Entry
    entry = record { context = held.name; number = context.next; plaintext = text; request = read_request text; moment = now; reply = served.reply }

    abbrev all : List Noted
    all =
        by_proxy proxy_number round.step_6.notes
        ∷ by_client number false round.step_5.notes
        ∷ by_proxy proxy_number round.step_4.notes
        ∷ by_server round.step_3.notes
        ∷ by_client number false round.step_2.notes
        ∷ by_proxy proxy_number round.step_1.notes
        ∷ by_client number false asks.step.notes
        ∷ []

    steps_are : new.steps ≡ all ++ old.steps
    steps_are =
        round.steps
        ∙ ap
        (λ (l : List Noted). by_proxy proxy_number round.step_6.notes
        ∷ by_client number false round.step_5.notes
        ∷ by_proxy proxy_number round.step_4.notes
        ∷ by_server round.step_3.notes
        ∷ by_client number false round.step_2.notes
        ∷ by_proxy proxy_number round.step_1.notes
        ∷ l)
        asks.steps

    history_is : history new.steps ≡ history old.steps ++ entry ∷ []
    history_is =
        ap history steps_are
        ∙ entry_of_seven
        (by_client number false asks.step.notes) (by_proxy proxy_number round.step_1.notes) (by_client number false round.step_2.notes) (by_server round.step_3.notes)
        (by_proxy proxy_number round.step_4.notes) (by_client number false round.step_5.notes) (by_proxy proxy_number round.step_6.notes) old.steps entry
        is.unserved quiet_1 quiet_2 (ap (λ (n : StepNotes). n.served) served.entry) quiet_4 (ap (λ (s : Step). s.notes.served) answered.is_answered.told) quiet_6

    among : AreAmongQuiet (by_client number false round.step_5.notes ∷ by_server round.step_3.notes ∷ by_client number false asks.step.notes ∷ []) all
    among =
        three_of_seven
        (by_client number false asks.step.notes) (by_proxy proxy_number round.step_1.notes) (by_client number false round.step_2.notes) (by_server round.step_3.notes)
        (by_proxy proxy_number round.step_4.notes) (by_client number false round.step_5.notes) (by_proxy proxy_number round.step_6.notes)
        quiet_1 quiet_2 quiet_4 quiet_6

    notes_are : AreNotesOfRequest now request served.reply asks.step.notes round.step_3.notes round.step_5.notes
    notes_are = record {
      asked_is = asks_notes is_sealing tag placed.node asks.client begins.what asks.step (request_note held.name context.next text) asks.asks is.sealed;
      holder = holder_at held.name.client_id old.nodes.server.desk.table;
      served_is = served.entry;
      answered_is = ap (λ (s : Step). s.notes) answered.is_answered.told;
    }

    goes_on : KeepsThePremise old new
    goes_on =
        keeps old new (all ++ old.steps)
        (still_minted is_sealing tag deliveries (suc (suc (suc (suc (suc (suc left)))))) old w1 is_quiet new (asking number begins.what) begins.happens rounds) steps_are
        (premises old.minted old.steps all old.nodes.server.desk.table now request served.reply
        (by_client number false asks.step.notes) (by_server round.step_3.notes) (by_client number false round.step_5.notes)
        lawful_server.table begins.may.here notes_are among)

    server_is : new.nodes.server ≡ round.server_3
    server_is = ap (λ (n : NodeStates). n.server) round.nodes_are

    abbrev last : Placed Client
    last = record after { node = round.client_5 }

    last_there : slice_get new.nodes.clients number ≡ Some last
    last_there = ap (λ (n : NodeStates). slice_get n.clients number) round.nodes_are ∙ got_back nodes.clients number after last there

    still_held : HoldsStill new.nodes.server held context.next (taking context.next held)
    still_held =
        subst (λ (s : Server). HoldsStill s held context.next (taking context.next held)) (sym server_is)
        (holds_still takes_numbers (standing_of old.nodes.server now) old.nodes.server round.server_3 held context.next lawful_server.table begins.may.here served.kept)

    same_way : (before : Placed Client) → slice_get old.nodes.clients number ≡ Some before → GoesTheSameWay before last
    same_way before stood =
        let same : placed ≡ before = same_Some placed before (sym begins.ready.here ∙ stood) in
        let sent = asks_same is_sealing tag placed.node begins.what asks.step asks.client asks.asks in
        subst (λ (p : Placed Client). GoesTheSameWay p last) same
        (record { at = refl; next_hop = answered.is_answered.next_hop ∙ sent.0; origin = answered.is_answered.origin ∙ sent.1 })

    pub answered_through : IsRound 6 w1 is_quiet new × HasAnswered old number now request new × KeepsThePremise old new
    answered_through = (
      record { count = round.count; quiet = round.quiet; still = round.still },
      record {
        reply = served.reply;
        applied = subst (λ (s : Server). AppliesTo old.nodes.server.tree (apply_read old.nodes.server.desk.rules.revoked old.nodes.server.tree held.scope (read_request text)) served.reply s.tree) (sym server_is) served.applied;
        entry = history_is;
        asked = asks.step.notes;
        served = round.step_3.notes;
        answered = round.step_5.notes;
        all = all;
        among = among;
        steps = steps_are;
        learnt = ap (λ (s : Step). s.notes.result) answered.is_answered.told;
        after = taking context.next held;
        at_server = still_held;
        placed = last;
        is_there = last_there;
        at_client = answered.is_answered.context ∙ is.context;
        idle = answered.is_answered.waiting;
        way = same_way;
        server_at = ap (λ (n : NodeStates). n.server_at) round.nodes_are;
      },
      goes_on,
    )

-- ---- whichever way it goes

module _ (is_sealing : Sealings) (tag : Tags) (itself : (a : Peer) → same_peer a a ≡ true)
    (straight_law : AnswersStraight is_sealing tag) (premises : KeepsByNotes) (takes_numbers : TakesNumbers)
    (deliveries : Deliveries) (count limit : ℕ) (w1 new : State) (begins : AskedRequest is_sealing tag deliveries count w1) (is_quiet : Bool)
    (apart : StandApart w1.nodes)
    (lawful : IsLawfulServer w1.nodes.server)
    (lawful_clients : AreLawfulClients w1.nodes.clients)
    (enough : count ≤ limit)
    (rounds : Rounds (Happens is_sealing tag) deliveries limit w1 is_quiet new) where
  abbrev IsMet : ℕ → Type 0
  IsMet n =
      IsRound n w1 is_quiet new
      × HasAnswered begins.before begins.client deliveries.at (opened_of is_sealing tag deliveries count w1 begins) new
      × KeepsThePremise begins.before new

  rounds_of : (n : ℕ) → limit ≡ n → Rounds (Happens is_sealing tag) deliveries n w1 is_quiet new
  rounds_of n is = subst (λ (m : ℕ). Rounds (Happens is_sealing tag) deliveries m w1 is_quiet new) is rounds

  abbrev round_is : ClientRound
  round_is = round_of deliveries begins.what.draw w1

  pub answered_round : AnswersThrough is_sealing tag → AreWhole deliveries.drawn w1 new → AreLawfulProxies w1.nodes.proxies → IsMet count
  answered_round through_law sizes lawful_proxies = by begins.ready.way
    where
      by : Way begins.before begins.placed round_is count → IsMet count
      by (ready_as.Way.straight two goes) =
          let more : limit ≡ suc (suc (limit - 2)) = omega (arith, enough, two) in
          subst IsMet (sym two)
          (answered_straight is_sealing tag itself straight_law premises takes_numbers deliveries count w1 new begins (limit - 2) is_quiet
          apart lawful lawful_clients goes (rounds_of (suc (suc (limit - 2))) more))
      by (ready_as.Way.through six proxy_number proxy there goes) =
          let more : limit ≡ suc (suc (suc (suc (suc (suc (limit - 6)))))) = omega (arith, enough, six) in
          subst IsMet (sym six)
          (answered_through is_sealing tag itself through_law premises takes_numbers deliveries count w1 new begins (limit - 6) is_quiet
          sizes apart lawful lawful_proxies lawful_clients proxy_number proxy there goes
          (rounds_of (suc (suc (suc (suc (suc (suc (limit - 6))))))) more))

  pub unheard_round : count ≡ 2 → (standing : Placed Client) → slice_get new.nodes.clients begins.client ≡ Some standing
      → LeavesUnheard begins.before new begins.what.draw begins.placed standing
  unheard_round is_two standing stands = by begins.ready.way
    where
      by : Way begins.before begins.placed round_is count → LeavesUnheard begins.before new begins.what.draw begins.placed standing
      by (ready_as.Way.straight two goes) =
          let more : limit ≡ suc (suc (limit - 2)) = omega (arith, enough, two) in
          left_unheard is_sealing tag itself straight_law premises takes_numbers deliveries count w1 new begins (limit - 2) is_quiet
          apart lawful lawful_clients goes (rounds_of (suc (suc (limit - 2))) more) standing stands
      by (ready_as.Way.through six proxy_number proxy there goes) = absurd (omega (arith, six, is_two))
