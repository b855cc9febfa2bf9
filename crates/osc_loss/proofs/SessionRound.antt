-- A request of a session: what the server makes of the first copy, what the client makes of the reply, and so what is promised.
use Rattle.std.proofs.Common.{◌≡◌, ◌∙◌, sym, ap, subst, refl, Bool, true, ℕ, ◌+◌, ◌^◌, ◌<◌, ◌≤◌, if◌then◌else◌, List, [], ◌∷◌, length, Option, Some, None, arith}
use Rattle.std.specs.Prelude.{IfSome, option_map}
use Rattle.std.proofs.lemmas.Bool.{lt-ltb}
use Rattle.osc_model.specs.{exchange_lifetime, same_peer, token_drawn}
use Rattle.osc_model.specs.Arrival.{Arrival}
use Rattle.osc_model.specs.declared.context.ContextName.{ContextName}
use Rattle.osc_model.specs.declared.node.Draw.{Draw}
use Rattle.osc_model.specs.declared.node.Moment.{Moment}
use Rattle.osc_model.specs.declared.node.Peer.{Peer}
use Rattle.osc_model.specs.declared.reply.Reply.{Reply}
use Rattle.osc_model.specs.declared.step.Datagram.{Datagram}
use Rattle.osc_model.specs.declared.step.Step.{Step}
use Rattle.osc_coap.specs.{spelling}
use Rattle.osc_coap.specs.Message.{Message}
use Rattle.osc_coap.specs.declared.kind.Kind.{Kind}
use Rattle.osc_coap.specs.declared.kind.Kind.TheVariants.{Acknowledgement, Confirmable}
use Rattle.osc_dedup.specs.{looked, with_note}
use Rattle.osc_message.specs.{EndpointState, Open, Sent, acknowledgement, datagram, done_over, empty_acknowledgement, is_confirmable, own_id, schedule, sent_to, settled, timeout_of, with_open}
use Rattle.osc_message.specs.Pace.{Pace, allowed, goes_at_once, sent_at}
use Rattle.osc_message.specs.declared.handling.Handling.TheVariants.{Counted as CountedSo}
use Rattle.osc_message.specs.declared.heard.Heard.TheVariants as heard_as
use Rattle.osc_context.specs.{greatest_number}
use Rattle.osc_ccm.specs.{Sealings, Tags}
use Rattle.osc_protect.specs.{HasShortContext, IsProtectedRequest, IsProtectedResponse, plain_bytes}
use Rattle.osc_authz.specs.{ClientContextState}
use Rattle.osc_proxy.specs.{IsCarried}
use Rattle.osc_server.specs.State.{State as Server}
use Rattle.osc_server.specs.{Hears as ServerHears, answered}
use Rattle.osc_client.specs.State.{State as Client}
use Rattle.osc_client.specs.{Asked, Counts, Hears as ClientHears, HostAndPort, IsLawfulClient, plain_of, plain_request, through, waits}
use Rattle.osc_client.specs.declared.waiting.Awaited.TheVariants.{Ask}
use Rattle.osc_client.specs.declared.waiting.Waiting.{Waiting}
use Rattle.osc_rounds.specs.{AwaitsReply, CarriesReply, IsAnsweredWith, IsServed, IsStraight, MayAsk, OpenedRequest, asked_text, in_acknowledgement}
use Rattle.osc_rounds.proofs.Accepting.{reply_accepted, reply_counts, same_number}
use Rattle.osc_rounds.proofs.Asking.{request_served}
use Rattle.osc_rounds.proofs.AskRound as round
use Rattle.osc_rounds.proofs.AskRound.{RoundLaws as AskLaws}
use Rattle.osc_rounds.proofs.Sent.{IsSent}
use Rattle.osc_loss.specs.Road.{Road}
use Rattle.osc_loss.specs.Round.{Given}
use Rattle.osc_loss.specs.Session.{IsAskedInASession, IsServedAs, KeepsContext, MayServe, RequestOnItsWay, answering, road_of}
use Rattle.osc_loss.proofs.Going.{IsRound, Learns, RoundLaws, TakesUp, copy_at, reply_at}
use Rattle.osc_loss.proofs.Outcome.{answered_whatever_comes}
use Rattle.osc_loss.proofs.Ticking.{Asks as AsksStill, IsWaitingFor, open_as}

-- what is noted of a confirmable message that is answered
pub answered_seen : (endpoint : EndpointState) (came : Arrival Message) (answer : Message) → came.what.kind ≡ Confirmable
    → (answered endpoint came answer).seen ≡ with_note came.at came.from came.what.id (record { until = came.at.ms + exchange_lifetime; reply = Some (spelling answer) }) endpoint.seen
answered_seen endpoint came answer kind = rw kind refl

-- a reply in the acknowledgement ends what is open
pub answered_sending : (road : Road) (sent : Sent) (old : Client) (now : Moment) (m : Message) (id : ℕ) (reply : Option (List ℕ))
    → same_peer road.route.server_at road.route.server_at ≡ true
    → m.kind ≡ Acknowledgement → m.id ≡ road.message.id → old.endpoint.sending ≡ open_as road sent ∷ []
    → (settled old.endpoint now road.route.server_at (heard_as.Message m) (CountedSo id reply)).sending ≡ []
answered_sending road sent old now m id reply itself kind its_id outstanding =
    rw (kind, outstanding, its_id) (rw (itself, same_number road.message.id) refl)

-- the message is the only one that is open
module _ (server_at : Peer) (at : Moment) (id timeout : ℕ) (bytes : List ℕ) where
  abbrev opens : Peer → Bool → List Open
  opens to at_once = (record { to = to; id = id; timeout = timeout; bytes = bytes; sent = sent_at at at_once }) ∷ []

  at_once : (pace : Pace) (to : Peer) → goes_at_once pace to [] ≡ true
  at_once pace to = lt-ltb 0 (allowed pace to) (omega arith)

  pub opened_alone : (pace : Pace) (to : Peer) (all : List Open) → all ≡ [] → to ≡ server_at
      → with_open pace at to id timeout bytes all ≡ (record { to = server_at; id = id; timeout = timeout; bytes = bytes; sent = Some (record { at = at; repeats = 0 }) }) ∷ []
  opened_alone pace to all none there =
      ap (λ (all : List Open). with_open pace at to id timeout bytes all) none
      ∙ ap (opens to) (at_once pace to)
      ∙ ap (λ (p : Peer). opens p true) there

module _ (is_sealing : Sealings) (tag : Tags) (laws : AskLaws is_sealing tag) (below : RoundLaws)
    (client asked : Client) (server : Server) (asks_for : Asked) (now : Moment) (at server_at : Peer) (context : ClientContextState) (first : Step)
    (lawful : IsLawfulClient client) (goes : IsStraight client server now asks_for.draw at server_at)
    (idle : client.waiting ≡ None) (has : client.context ≡ Some context) (number : context.next ≤ greatest_number)
    (sent : IsSent is_sealing tag client asked asks_for first context) where
  abbrev draw : Draw
  draw = asks_for.draw

  abbrev id : ℕ
  id = own_id draw client.endpoint.next_id

  abbrev pub request : RequestOnItsWay
  request = record {
    asked = asked;
    server = server;
    route = record { at = at; server_at = server_at; now = now };
    name = context.name;
    number = context.next;
    text = asked_text client draw asks_for.request;
  }

  abbrev road : Road
  road = road_of is_sealing request asks_for sent.message

  abbrev bare : Message
  bare = plain_request id (token_drawn draw) asks_for.request

  plain_is : plain_of client draw asks_for.request ≡ bare
  plain_is = ap (λ (origin : Option HostAndPort). through origin bare) goes.direct

  made : IsProtectedRequest is_sealing context.name context.next bare sent.message
  made = subst (λ (m : Message). IsProtectedRequest is_sealing context.name context.next m sent.message) plain_is sent.made

  its_id : sent.message.id ≡ id
  its_id = ap (λ (m : Message). m.id) made.whole

  its_kind : sent.message.kind ≡ Confirmable
  its_kind = ap (λ (m : Message). m.kind) made.whole

  short_name : HasShortContext context.name
  short_name = subst (λ (c : Option ClientContextState). IfSome c (λ k. HasShortContext k.name)) has lawful.context

  -- ---- the client waits

  abbrev waiting : Waiting
  waiting = waits client.endpoint asks_for.at draw (Ask (record { number = context.next }))

  waits_for : IsWaitingFor road asked
  waits_for = record {
    waiting = waiting;
    waits = ap (λ (c : Client). c.waiting) sent.kept;
    id = sym its_id;
    token = ap (λ (m : Message). m.token) (sym made.whole);
    next_hop = ap (λ (c : Client). c.next_hop) sent.kept ∙ goes.next_hop;
  }

  awaits : (sent_so : Sent) (old : Client) → AsksStill road asked sent_so old → AwaitsReply old server_at context.name context.next sent.message
  unfolding waits_for
  awaits sent_so old asks = record {
    next = context.next + 1;
    held = ap (λ (c : Client). c.context) asks.kept ∙ ap (λ (c : Client). c.context) sent.kept;
    waiting = waiting;
    waits = ap (λ (c : Client). c.waiting) asks.kept ∙ waits_for.waits;
    asks = refl;
    id = waits_for.id;
    token = waits_for.token;
    peer = ap (λ (c : Client). same_peer c.next_hop server_at) asks.kept ∙ ap (λ (p : Peer). same_peer p server_at) waits_for.next_hop ∙ laws.itself server_at;
    number_lawful = number;
  }

  -- ---- what is known of the answer

  record Fits (given : Given) : Type 0 where
    message : IsCarried sent.message
    plain : Message
    reply : Reply
    protected : IsProtectedResponse is_sealing context.name context.next None plain given.answer
    kind : plain.kind ≡ Acknowledgement
    id : plain.id ≡ sent.message.id
    carries : (old : Client) (later : Moment) → CarriesReply old later server_at sent.message reply plain
    carried : IsCarried given.answer
    told : given.told ≡ answering request reply

  -- ---- the server takes up the first copy

  module _ (old new : Server) (moment : Moment) (server_draw : Draw) (step : Step) (ready : MayServe request old moment server_draw)
      (new_there : looked moment at sent.message.id old.endpoint.seen ≡ None)
      (hears : ServerHears is_sealing old (copy_at is_sealing (IsServedAs is_sealing request sent.message) (KeepsContext request) (MayServe request) Fits road asked moment server_draw) step new) where
    abbrev came : Arrival Message
    came = record { at = moment; from = at; draw = server_draw; what = sent.message }

    may : MayAsk client old moment context ready.held
    may = record {
      idle = idle;
      has = has;
      here = ready.here;
      one_name = ready.one_name;
      live = ready.live;
      number = number;
      fresh = ready.fresh;
    }

    straight : IsStraight client old moment draw at server_at
    straight = record {
      direct = goes.direct;
      next_hop = goes.next_hop;
      unheard = subst (λ (n : ℕ). looked moment at n old.endpoint.seen ≡ None) its_id new_there;
    }

    abbrev opened : OpenedRequest
    opened = record { held = ready.held; number = context.next; text = request.text }

    message_carried : IsCarried sent.message
    message_carried = round.sendable is_sealing tag laws client asked old asks_for moment at server_at context ready.held first ready.lawful short_name straight may sent

    served : IsServed is_sealing old came opened step new
    served =
        subst (λ (m : Message). IsServed is_sealing old came (record { held = ready.held; number = context.next; text = plain_bytes m }) step new) (sym plain_is)
        (request_served is_sealing laws.request old came ready.held context.next bare step new
        (round.awaits_request is_sealing tag laws client asked old asks_for moment at server_at context ready.held first ready.lawful short_name straight may sent)
        (round.for_server is_sealing tag laws client asked old asks_for moment at server_at context ready.held first ready.lawful short_name straight may sent)
        (round.its is_sealing tag laws client asked old asks_for moment at server_at context ready.held first ready.lawful short_name straight may sent)
        message_carried hears)

    abbrev given : Given
    given = record { answer = served.answer; server = new; now = moment; told = answering request served.reply }

    id_few : sent.message.id < 2 ^ 16
    id_few =
        subst (λ (n : ℕ). n < 2 ^ 16) (sym its_id)
        (round.few is_sealing tag laws client asked old asks_for moment at server_at context ready.held first ready.lawful short_name straight may sent)

    token_short : length sent.message.token ≤ 8
    token_short =
        subst (λ (m : Message). length m.token ≤ 8) (sym made.whole)
        (round.token_short is_sealing tag laws client asked old asks_for moment at server_at context ready.held first ready.lawful short_name straight may sent)

    abbrev its_plain : Message
    its_plain = round.plain is_sealing tag laws old came opened step new its_kind id_few token_short ready.lawful.limits served

    plain_kind : its_plain.kind ≡ Acknowledgement
    plain_kind = round.plain_kind is_sealing tag laws old came opened step new its_kind id_few token_short ready.lawful.limits served

    plain_id : its_plain.id ≡ sent.message.id
    plain_id = round.plain_id is_sealing tag laws old came opened step new its_kind id_few token_short ready.lawful.limits served

    carries_to : (to : Client) (later : Moment) → CarriesReply to later server_at sent.message served.reply its_plain
    carries_to to later =
        let it = round.carries is_sealing tag laws old came opened step new its_kind id_few token_short ready.lawful.limits served to server_at sent.message its_plain
        (in_acknowledgement plain_kind plain_id) refl
        (round.plain_inside is_sealing tag laws old came opened step new its_kind id_few token_short ready.lawful.limits served) refl in
        record {
          comes = in_acknowledgement plain_kind plain_id;
          token = it.token;
          inside = it.inside;
          plaintext = it.plaintext;
          within = it.within;
          least = it.least;
          most = it.most;
        }

    takes_up : TakesUp is_sealing (IsServedAs is_sealing request sent.message) (KeepsContext request) (MayServe request) Fits road asked old moment server_draw step new
    takes_up = record {
      given = given;
      made = record { held = ready.held; one_name = ready.one_name; is = served; given_is = refl };
      fits = record {
        message = message_carried;
        plain = its_plain;
        reply = served.reply;
        protected = subst (λ (n : ContextName). IsProtectedResponse is_sealing n context.next None its_plain served.answer) ready.one_name served.protected;
        kind = plain_kind;
        id = plain_id;
        carries = carries_to;
        carried = round.answer_sendable is_sealing tag laws old came opened step new its_kind id_few token_short ready.lawful.limits served;
        told = refl;
      };
      out = ap (λ (s : Step). s.out) served.told;
      seen = ap (λ (s : Server). s.endpoint.seen) served.kept ∙ answered_seen old.endpoint came served.answer its_kind;
    }

  -- ---- the client learns it

  module _ (given : Given) (sent_so : Sent) (old new : Client) (moment : Moment) (its_draw : Draw) (step : Step) (fits : Fits given) (asks : AsksStill road asked sent_so old)
      (hears : ClientHears is_sealing old (reply_at is_sealing (IsServedAs is_sealing request sent.message) (KeepsContext request) (MayServe request) Fits road asked given moment its_draw) step new) where
    abbrev back : Arrival Message
    back = record { at = moment; from = server_at; draw = its_draw; what = given.answer }

    kind_is : given.answer.kind ≡ Acknowledgement
    kind_is = ap (λ (p : Message). p.kind) fits.protected.whole ∙ fits.kind

    id_is : given.answer.id ≡ sent.message.id
    id_is = ap (λ (p : Message). p.id) fits.protected.whole ∙ fits.id

    none_back : sent_to server_at (acknowledgement given.answer) ≡ []
    none_back = ap (λ (kind : Kind). sent_to server_at (if is_confirmable kind then Some (empty_acknowledgement given.answer.id) else None)) kind_is

    accepted : IsAnsweredWith (sent_to server_at (acknowledgement given.answer)) old (record { name = context.name; number = context.next; reply = fits.reply }) step new
    accepted =
        reply_accepted is_sealing laws.reply old back context.name context.next sent.message fits.plain fits.reply step new (awaits sent_so old asks) (fits.carries old moment) fits.protected fits.carried hears

    counts : Counts is_sealing old back step new
    counts =
        reply_counts is_sealing laws.reply old back context.name context.next sent.message fits.plain fits.reply step new (awaits sent_so old asks) (fits.carries old moment) fits.protected fits.carried hears

    learns : Learns is_sealing (IsServedAs is_sealing request sent.message) (KeepsContext request) (MayServe request) Fits road asked given step new
    learns = record {
      told = accepted.told
          ∙ ap (λ (out : List Datagram). let s : Step = record { out = out; notes = (answering request fits.reply).notes } in s) none_back
          ∙ sym fits.told;
      done = record {
        waiting = accepted.waiting;
        sending = ap (λ (c : Client). c.endpoint.sending) counts.kept
            ∙ answered_sending road sent_so old moment given.answer counts.waiting.id (option_map spelling (acknowledgement given.answer)) (laws.itself server_at) kind_is id_is asks.sending;
      };
      keeps = accepted.context ∙ ap (λ (c : Client). c.context) asks.kept;
    }

  -- ---- what is promised

  abbrev alone_of : ℕ → List Open
  alone_of n = (record { to = server_at; id = n; timeout = timeout_of draw; bytes = spelling sent.message; sent = Some (record { at = asks_for.at; repeats = 0 }) }) ∷ []

  is_round : IsRound is_sealing (IsServedAs is_sealing request sent.message) (KeepsContext request) (MayServe request) Fits road asked
  is_round = record {
    waits = waits_for;
    kind = its_kind;
    code = ap (λ (m : Message). m.code) made.whole;
    carried = λ given fits. fits.message;
    takes_up = λ old new moment server_draw step ready new_there hears. takes_up old new moment server_draw step ready new_there hears;
    learns = λ given sent_so old new moment its_draw step fits asks hears. learns given sent_so old new moment its_draw step fits asks hears;
  }

  pub asked_in_a_session : ((message : Open) (went : Moment) (ticks : List Moment) → done_over message (record { at = went; repeats = 0 }) ticks ≡ schedule went message.timeout ticks)
      → IsAskedInASession is_sealing request client asks_for first
  asked_in_a_session scheduled = record {
    message = sent.message;
    out = ap (λ (s : Step). s.out) sent.told;
    unserved = ap (λ (s : Step). s.notes.served) sent.told;
    goes =
        answered_whatever_comes is_sealing (IsServedAs is_sealing request sent.message) (KeepsContext request) (MayServe request) Fits road asked below is_round scheduled server first.out
        (ap (λ (s : Step). s.out) sent.told ∙ ap (λ (to : Peer). datagram to sent.message ∷ []) goes.next_hop)
        (ap (λ (c : Client). c.endpoint.sending) sent.kept
        ∙ opened_alone server_at asks_for.at id (timeout_of draw) (spelling sent.message) client.endpoint.pace client.next_hop client.endpoint.sending (lawful.still idle) goes.next_hop
        ∙ ap alone_of (sym its_id))
        (subst (λ (n : ℕ). looked now at n server.endpoint.seen ≡ None) (sym its_id) goes.unheard);
  }
