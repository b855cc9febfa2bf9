-- An exchange: what the server makes of the first copy of the post, what the client makes of the answer, and so what is promised.
use Rattle.std.proofs.Common.{◌≡◌, ◌∙◌, sym, ap, subst, refl, ℕ, ◌+◌, ◌^◌, ◌<◌, ◌≤◌, List, [], ◌∷◌, length, Option, Some, None, arith}
use Rattle.std.specs.Prelude.{◌≢◌, drop, option_map}
use Rattle.std.proofs.lemmas.List.{length-take}
use Rattle.osc_model.specs.{exchange_lifetime, nonce_drawn, quiet, read_as, same_peer, token_drawn}
use Rattle.osc_model.specs.Arrival.{Arrival}
use Rattle.osc_model.specs.declared.node.Draw.{Draw}
use Rattle.osc_model.specs.declared.node.Moment.{Moment}
use Rattle.osc_model.specs.declared.node.Peer.{Peer}
use Rattle.osc_model.specs.declared.step.ClientResult.TheVariants as result
use Rattle.osc_model.specs.declared.step.Datagram.{Datagram}
use Rattle.osc_model.specs.declared.step.Step.{Step}
use Rattle.osc_coap.specs.{Spells, spelling}
use Rattle.osc_coap.specs.Message.{Message}
use Rattle.osc_coap.specs.declared.kind.Kind.TheVariants.{Acknowledgement}
use Rattle.osc_dedup.specs.{Entry as Noted, looked, with_note}
use Rattle.osc_message.specs.{Open, Sent, acknowledgement, datagram, done_over, heard, own_id, schedule, timeout_of}
use Rattle.osc_message.specs.declared.heard.Heard.{Heard}
use Rattle.osc_message.specs.declared.heard.Heard.TheVariants as heard_as
use Rattle.osc_message.specs.declared.received.Received.{Received}
use Rattle.osc_message.specs.declared.received.Received.TheVariants as received
use Rattle.osc_ccm.specs.{Sealings}
use Rattle.osc_protect.specs.{longest_message}
use Rattle.osc_scope.specs.{Entry}
use Rattle.osc_token.specs.declared.claims.Claims.{Claims}
use Rattle.osc_authz.specs.Begun.{Begun}
use Rattle.osc_authz.specs.SecurityContext.{SecurityContext}
use Rattle.osc_proxy.specs.{IsCarried}
use Rattle.osc_server.specs.State.{State as Server}
use Rattle.osc_server.specs.{Answers as ServerAnswers, AnswersNew as ServerAnswersNew, AnswersPost, Hears as ServerHears, case_of as server_case, post_reply, reply_to}
use Rattle.osc_server.specs.declared.case.RequestCase.{RequestCase}
use Rattle.osc_client.specs.State.{State as Client}
use Rattle.osc_client.specs.Sending as sending
use Rattle.osc_client.specs.{Answers as ClientAnswers, AnswersNew as ClientAnswersNew, Counts, Exchanges, Hears as ClientHears, HostAndPort, IsLawfulClient, begins, begun_by, busy, case_of as client_case, opened, post_by, post_with, through, waits}
use Rattle.osc_client.specs.declared.case.ResponseCase.{ResponseCase}
use Rattle.osc_client.specs.declared.case.ResponseCase.TheVariants.{Counted}
use Rattle.osc_client.specs.declared.waiting.Awaited.TheVariants.{Exchange}
use Rattle.osc_client.specs.declared.waiting.Waiting.{Waiting}
use Rattle.osc_rounds.specs.{AwaitsAgreement, AwaitsPost, BegunExchange, IsAgreedTo, IsHeld, IsStraight, agreement, body_of, in_bytes}
use Rattle.osc_rounds.proofs.Agreement.{ExchangeLaws, IsCounted, IsEnded, agreement_sendable, case_post, counts_acknowledged, heard_post, hears_agreement, hears_post, post_lawful}
use Rattle.osc_rounds.proofs.Asking.{received_as}
use Rattle.osc_loss.specs.Road.{Road}
use Rattle.osc_loss.specs.Round.{Given}
use Rattle.osc_loss.specs.Exchange.{IsAgreedAs, IsBegunOverLoss, MakesOneContext, MayAgree, PostOnItsWay, making, road_of}
use Rattle.osc_loss.proofs.Going.{IsRound, Learns, RoundLaws, TakesUp, copy_at, reply_at}
use Rattle.osc_loss.proofs.Outcome.{answered_whatever_comes}
use Rattle.osc_loss.proofs.SessionRound.{answered_seen, answered_sending, opened_alone}
use Rattle.osc_loss.proofs.Ticking.{Asks as AsksStill, IsWaitingFor}

module _ (is_sealing : Sealings) (laws : ExchangeLaws is_sealing) (below : RoundLaws)
    (client begun : Client) (server : Server) (asked_at now : Moment) (draw : Draw) (at server_at : Peer) (claims : Claims) (entries : List Entry) (first : Step)
    (lawful : IsLawfulClient client) (size : length draw.0 ≡ 32) (goes : IsStraight client server now draw at server_at) (idle : client.waiting ≡ None)
    (short : length (spelling (post_by client draw)) ≤ longest_message) (spelled : Spells (spelling (post_by client draw)) (post_by client draw))
    (told : first ≡ record { out = datagram client.next_hop (post_by client draw) ∷ []; notes = record quiet { drawn = Some (nonce_drawn draw) } })
    (kept : begun ≡ opened client asked_at draw (post_by client draw) (Exchange (begun_by client draw))) where
  abbrev its : Begun
  its = begun_by client draw

  abbrev exchange : BegunExchange
  exchange = record { claims = claims; entries = entries; holder = client.desk; begun = its }

  abbrev pub post : PostOnItsWay
  post = record { begun = begun; server = server; route = record { at = at; server_at = server_at; now = now }; exchange = exchange }

  abbrev id : ℕ
  id = own_id draw client.endpoint.next_id

  abbrev token : List ℕ
  token = token_drawn draw

  abbrev message : Message
  message = post_with id token (body_of client.desk its)

  abbrev road : Road
  road = road_of is_sealing post asked_at draw message

  message_is : post_by client draw ≡ message
  message_is = ap (λ (origin : Option HostAndPort). through origin message) goes.direct

  id_few : id < 2 ^ 16
  id_few = subst (λ (m : Message). m.id < 2 ^ 16) message_is spelled.lawful.id

  token_short : length token ≤ 8
  token_short = omega (arith, length-take 8 (drop 8 draw.0))

  nonce_size : length its.nonce1 ≡ 8
  nonce_size = omega (arith, length-take 8 draw.0, size)

  carried : IsCarried message
  carried = record {
    lawful = post_lawful None id token (body_of client.desk its) tt id_few token_short;
    short = subst (λ (m : Message). length (spelling m) ≤ longest_message) message_is short;
  }

  -- ---- the client waits

  abbrev waiting : Waiting
  waiting = waits client.endpoint asked_at draw (Exchange its)

  waits_for : IsWaitingFor road begun
  waits_for = record {
    waiting = waiting;
    waits = ap (λ (c : Client). c.waiting) kept;
    id = refl;
    token = refl;
    next_hop = ap (λ (c : Client). c.next_hop) kept ∙ goes.next_hop;
  }

  awaits : (sent_so : Sent) (old : Client) → AsksStill road begun sent_so old → AwaitsAgreement old server_at client.desk its token
  unfolding waits_for
  awaits sent_so old asks = record {
    desk = ap (λ (c : Client). c.desk) asks.kept ∙ ap (λ (c : Client). c.desk) kept;
    waiting = waiting;
    waits = ap (λ (c : Client). c.waiting) asks.kept ∙ waits_for.waits;
    exchange = refl;
    token = refl;
    peer = ap (λ (c : Client). same_peer c.next_hop server_at) asks.kept ∙ ap (λ (p : Peer). same_peer p server_at) waits_for.next_hop ∙ laws.itself server_at;
  }

  -- ---- what is known of the answer

  abbrev as_it_came : Moment → Draw → Arrival Message
  as_it_came moment server_draw = record { at = moment; from = at; draw = server_draw; what = message }

  record Fits (given : Given) : Type 0 where
    old : Server
    server_draw : Draw
    step : Step
    draw_size : length server_draw.0 ≡ 32
    awaited : AwaitsPost is_sealing old (as_it_came given.now server_draw) exchange
    is : IsAgreedTo is_sealing old (as_it_came given.now server_draw) exchange step given.server
    answer : given.answer ≡ agreement Acknowledgement id token is.answer
    told_is : given.told ≡ making

  -- ---- the server takes up the first copy

  module _ (old new : Server) (moment : Moment) (server_draw : Draw) (step : Step) (ready : MayAgree is_sealing post old moment server_draw)
      (new_there : looked moment at id old.endpoint.seen ≡ None)
      (hears : ServerHears is_sealing old (copy_at is_sealing (IsAgreedAs is_sealing post message) (MakesOneContext post) (MayAgree is_sealing post) Fits road begun moment server_draw) step new) where
    abbrev came : Arrival Message
    came = as_it_came moment server_draw

    awaits_post : AwaitsPost is_sealing old came exchange
    awaits_post = record { token_key = ready.token_key; welcome = ready.welcome; makes = ready.makes; nonce = nonce_size; unheard = new_there }

    agreed : IsAgreedTo is_sealing old came exchange step new
    agreed = hears_post is_sealing laws old came exchange awaits_post None tt refl step new carried hears

    answers_post : AnswersPost is_sealing old (read_as (in_bytes came) message) step new
    answers_post =
        let as_it : hears.received ≡ received.Message message = received_as laws.one_reception message hears.received carried hears.receives in
        let heard_is : heard old.endpoint.seen moment at hears.received ≡ heard_as.Message message =
        ap (λ (r : Received). heard old.endpoint.seen moment at r) as_it
        ∙ heard_post None old.endpoint.seen moment at id token (body_of client.desk its) new_there in
        let so : ServerAnswersNew is_sealing old (read_as (in_bytes came) message) (server_case old.open_scope message) step new =
        subst (λ (h : Heard). ServerAnswers is_sealing old (in_bytes came) h step new) heard_is hears.answers in
        subst (λ (k : RequestCase). ServerAnswersNew is_sealing old (read_as (in_bytes came) message) k step new) (case_post old.open_scope None id token (body_of client.desk its) tt) so

    abbrev given : Given
    given = record { answer = agreement Acknowledgement id token agreed.answer; server = new; now = moment; told = making }

    -- the datagram that says so is the one that is noted
    out_is : datagram at (reply_to old.endpoint came (post_reply answers_post.post.answer)) ∷ [] ≡ datagram at given.answer ∷ []
    out_is = sym (ap (λ (s : Step). s.out) answers_post.sent.sent) ∙ agreed.out

    abbrev noted_with : List ℕ → List Noted
    noted_with bytes = with_note moment at id (record { until = moment.ms + exchange_lifetime; reply = Some bytes }) old.endpoint.seen

    first_bytes : (a b : Datagram) → a ∷ [] ≡ b ∷ [] → a.bytes ≡ b.bytes
    first_bytes a b same = ap (λ (d : Datagram). d.bytes) (one a b same)
      where
        one : (a b : Datagram) → a ∷ [] ≡ b ∷ [] → a ≡ b
        one a b same = cc

    takes_up : TakesUp is_sealing (IsAgreedAs is_sealing post message) (MakesOneContext post) (MayAgree is_sealing post) Fits road begun old moment server_draw step new
    takes_up = record {
      given = given;
      made = record { is = agreed; given_is = refl };
      fits = record {
        old = old;
        server_draw = server_draw;
        step = step;
        draw_size = ready.draw_size;
        awaited = awaits_post;
        is = agreed;
        answer = refl;
        told_is = refl;
      };
      out = agreed.out;
      seen = ap (λ (s : Server). s.endpoint.seen) answers_post.sent.kept
          ∙ answered_seen old.endpoint came (reply_to old.endpoint came (post_reply answers_post.post.answer)) refl
          ∙ ap (λ (bytes : List ℕ). noted_with bytes)
          (first_bytes (datagram at (reply_to old.endpoint came (post_reply answers_post.post.answer))) (datagram at given.answer) out_is);
    }

  -- ---- the client learns it

  module _ (given : Given) (sent_so : Sent) (old new : Client) (moment : Moment) (its_draw : Draw) (step : Step) (fits : Fits given) (asks : AsksStill road begun sent_so old)
      (hears : ClientHears is_sealing old (reply_at is_sealing (IsAgreedAs is_sealing post message) (MakesOneContext post) (MayAgree is_sealing post) Fits road begun given moment its_draw) step new) where
    abbrev answer : Message
    answer = agreement Acknowledgement id token fits.is.answer

    abbrev back : Arrival Message
    back = record { at = moment; from = server_at; draw = its_draw; what = answer }

    hears_it : ClientHears is_sealing old (in_bytes back) step new
    hears_it = subst (λ (m : Message). ClientHears is_sealing old (record { at = moment; from = server_at; draw = its_draw; what = spelling m }) step new) fits.answer hears

    answer_carried : IsCarried answer
    answer_carried =
        agreement_sendable is_sealing laws fits.old (as_it_came given.now fits.server_draw) exchange fits.awaited fits.step given.server fits.draw_size fits.is Acknowledgement id token id_few token_short

    counted : IsCounted old.next_hop server_at waiting old.endpoint.seen moment answer
    counted = counts_acknowledged old.next_hop server_at waiting old.endpoint.seen moment id token fits.is.answer (awaits sent_so old asks).peer refl refl

    ended : (held : SecurityContext) × IsHeld given.server given.now entries held × IsEnded old server_at answer held step new
    unfolding awaits
    ended =
        hears_agreement is_sealing laws fits.old (as_it_came given.now fits.server_draw) exchange fits.awaited fits.step given.server fits.draw_size fits.is Acknowledgement id token
        old moment server_at its_draw (awaits sent_so old asks) step new answer_carried counted hears_it

    counts : Counts is_sealing old back step new
    unfolding awaits
    counts =
        let as_it : hears_it.received ≡ received.Message answer = received_as laws.one_reception answer hears_it.received answer_carried hears_it.receives in
        let heard_is : heard old.endpoint.seen moment server_at hears_it.received ≡ heard_as.Message answer =
        ap (λ (r : Received). heard old.endpoint.seen moment server_at r) as_it ∙ counted.heard_so in
        let case_is : client_case old.next_hop server_at old.waiting answer ≡ Counted =
        ap (λ (w : Option Waiting). client_case old.next_hop server_at w answer) (awaits sent_so old asks).waits ∙ counted.counts in
        let so : ClientAnswersNew is_sealing old back (client_case old.next_hop server_at old.waiting answer) step new =
        subst (λ (h : Heard). ClientAnswers is_sealing old (in_bytes back) h step new) heard_is hears_it.answers in
        subst (λ (k : ResponseCase). ClientAnswersNew is_sealing old back k step new) case_is so

    learns : Learns is_sealing (IsAgreedAs is_sealing post message) (MakesOneContext post) (MayAgree is_sealing post) Fits road begun given step new
    learns = record {
      told = ended.2.told ∙ sym fits.told_is;
      done = record {
        waiting = ap (λ (c : Client). c.waiting) ended.2.kept;
        sending = ap (λ (c : Client). c.endpoint.sending) counts.kept
            ∙ answered_sending road sent_so old moment answer counts.waiting.id (option_map spelling (acknowledgement answer)) (laws.itself server_at) refl refl asks.sending;
      };
      keeps = record { held = ended.0; holds = ended.1; one_name = ap (λ (c : Client). c.context) ended.2.kept };
    }

  -- ---- what is promised

  abbrev alone_of : Message → List Open
  alone_of m = (record { to = server_at; id = id; timeout = timeout_of draw; bytes = spelling m; sent = Some (record { at = asked_at; repeats = 0 }) }) ∷ []

  is_round : IsRound is_sealing (IsAgreedAs is_sealing post message) (MakesOneContext post) (MayAgree is_sealing post) Fits road begun
  is_round = record {
    waits = waits_for;
    kind = refl;
    code = refl;
    carried = λ given fits. carried;
    takes_up = λ old new moment server_draw step ready new_there hears. takes_up old new moment server_draw step ready new_there hears;
    learns = λ given sent_so old new moment its_draw step fits asks hears. learns given sent_so old new moment its_draw step fits asks hears;
  }

  pub begun_over_loss : ((message : Open) (went : Moment) (ticks : List Moment) → done_over message (record { at = went; repeats = 0 }) ticks ≡ schedule went message.timeout ticks)
      → IsBegunOverLoss is_sealing post client asked_at draw first
  begun_over_loss scheduled = record {
    message = message;
    out = ap (λ (s : Step). s.out) told ∙ ap (λ (m : Message). datagram client.next_hop m ∷ []) message_is;
    drawn = ap (λ (s : Step). s.notes.drawn) told;
    goes =
        answered_whatever_comes is_sealing (IsAgreedAs is_sealing post message) (MakesOneContext post) (MayAgree is_sealing post) Fits road begun below is_round scheduled server first.out
        (ap (λ (s : Step). s.out) told ∙ ap (λ (m : Message). datagram client.next_hop m ∷ []) message_is ∙ ap (λ (to : Peer). datagram to message ∷ []) goes.next_hop)
        (ap (λ (c : Client). c.endpoint.sending) kept
        ∙ opened_alone server_at asked_at id (timeout_of draw) (spelling (post_by client draw)) client.endpoint.pace client.next_hop client.endpoint.sending (lawful.still idle) goes.next_hop
        ∙ ap (λ (m : Message). alone_of m) message_is)
        goes.unheard;
  }

-- ---- where it is begun

module _ (is_sealing : Sealings) (laws : ExchangeLaws is_sealing) (below : RoundLaws)
    (client begun : Client) (server : Server) (asked_at now : Moment) (draw : Draw) (at server_at : Peer) (claims : Claims) (entries : List Entry) (first : Step)
    (lawful : IsLawfulClient client) (size : length draw.0 ≡ 32) (goes : IsStraight client server now draw at server_at) (idle : client.waiting ≡ None) where
  pub begun_once : first.notes.result ≢ Some (result.Refused 14) → Exchanges client asked_at draw first begun
      → ((message : Open) (went : Moment) (ticks : List Moment) → done_over message (record { at = went; repeats = 0 }) ticks ≡ schedule went message.timeout ticks)
      → IsBegunOverLoss is_sealing
      (record {
        begun = begun;
        server = server;
        route = record { at = at; server_at = server_at; now = now };
        exchange = record { claims = claims; entries = entries; holder = client.desk; begun = begun_by client draw };
      })
      client asked_at draw first
  begun_once fits (busy waits refused) scheduled = absurd (waits idle)
  begun_once fits (sending.Exchanges.too_long free long refused) scheduled = absurd (fits (ap (λ (s : Step). s.notes.result) refused.told))
  begun_once fits (begins free short spelled told kept) scheduled =
      begun_over_loss is_sealing laws below client begun server asked_at now draw at server_at claims entries first lawful size goes idle short spelled told kept scheduled
