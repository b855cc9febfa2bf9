-- A request goes through the proxy, and its answer comes back.
use Rattle.std.proofs.Common.{◌≡◌, ◌<◌, ◌≤◌, ◌+◌, ◌%◌, ◌^◌, ℕ, Bool, true, false, nat_eq, List, [], ◌∷◌, ◌++◌, length, length-drop, length-take, drop, take, refl, ap, sym, ◌∙◌, subst, arith, Option, Some, None}
use Rattle.std.specs.Prelude.{bytes_eq}
use Rattle.std.proofs.lemmas.Bool.{eq-eqb, le-leb}
use Rattle.std.proofs.lemmas.List.Elements.{All-head}
use Rattle.std.proofs.lemmas.Option.{same_Some}
use Rattle.std.proofs.lemmas.Slice.Eq.{bytes_eq-Decides}
use Rattle.osc_model.specs.Arrival.{Arrival}
use Rattle.osc_model.specs.{token_drawn, sends}
use Rattle.osc_model.specs.declared.node.Draw.{Draw}
use Rattle.osc_model.specs.declared.node.Moment.{Moment}
use Rattle.osc_model.specs.declared.node.Peer.{Peer}
use Rattle.osc_model.specs.declared.step.Datagram.{Datagram}
use Rattle.osc_model.specs.declared.step.Step.{Step}
use Rattle.osc_coap.specs.{datagram_limit, HasSpelling, spelling}
use Rattle.osc_coap.specs.Message.{Message}
use Rattle.osc_coap.specs.declared.kind.Kind.TheVariants.{Confirmable, Acknowledgement}
use Rattle.osc_options.specs.{uri_port, recognised, value}
use Rattle.osc_message.specs.Pace.{Pace}
use Rattle.osc_message.specs.{Open, acknowledged, goes_at_once, has_open, takes, with_open, EndpointState, own_id, heard, AreSendable, FitsDatagram, acknowledgement, datagram, empty_acknowledgement, is_confirmable, sent_to, timeout_of}
use Rattle.osc_message.specs.declared.heard.Heard.TheVariants as heard_as
use Rattle.osc_message.specs.declared.received.Received.TheVariants as received_as
use Rattle.osc_proxy.specs.{case_of, HasOwnTokens, answers, count, first_key, free_key, get, answer, forwarded, forwarded_token, Hears, goes_now, sends_own, with_own, HostAndPort, Names, port_in, Answers, AnswersMessage, AnswersNew, Counts, FitsBy, ForwardsBy, IsForwarded, answer_for, back_kept, back_sends, counted, exchange_of, forwarded_by, kept_on, key_for, next_own, taken_up, CanSendTo, IsAnswerTo, IsAtRest, IsBroughtBack, IsCarried, IsLawfulProxy, IsPassedOn, TakesUp, acknowledged_at, answer_by, answer_id, answered_at, datagram_of, heard_with}
use Rattle.osc_proxy.specs.Passage.{Passage}
use Rattle.osc_proxy.specs.State.{State}
use Rattle.osc_proxy.specs.declared.case.ForwardCase.TheVariants.{Forwarded, Counted}
use Rattle.osc_proxy.specs.declared.exchanges.Exchange.{Exchange}
use Rattle.osc_proxy.proofs.Its.{peer_same}
use Rattle.osc_proxy.proofs.Forwarded.{named_by_options}
use Rattle.osc_proxy.proofs.Heard.{OneReception, message_received, request_case, request_heard, response_case, response_heard}
use Rattle.osc_proxy.proofs.Left.{acknowledged_again, acknowledged_twice, free_again, tokens_left, tokens_stay}
use Rattle.osc_proxy.proofs.Tokens.{found_by_own}

pub record PassingLaws : Type 0 where
  pub one_reception : OneReception
  pub acknowledgement : (id : ℕ) → id < 2 ^ 16 → HasSpelling (empty_acknowledgement id)
  pub idle : (pace : Pace) (peer : Peer) (all : List Open) → has_open peer all ≡ false → goes_at_once pace peer all ≡ true
  pub short : (id : ℕ) → length (spelling (empty_acknowledgement id)) ≤ datagram_limit
  pub no_longer : (id : ℕ) (token : List ℕ) (message : Message) → HasSpelling message → length token ≤ length message.token
      → length (spelling (forwarded id token message)) ≤ length (spelling message)

acknowledgement_carried : PassingLaws → (id : ℕ) → id < 2 ^ 16 → IsCarried (empty_acknowledgement id)
acknowledgement_carried laws id small = record { lawful = laws.acknowledgement id small; short = laws.short id }

-- ---- there

token_short : (key : ℕ) (draw : Draw) → length (forwarded_token key draw) ≤ 8
token_short key draw = eight (drop 8 draw.0)
  where
    eight : (bytes : List ℕ) → length (key ∷ drop 1 (take 8 bytes)) ≤ 8
    eight bytes = omega (arith, length-drop 1 (take 8 bytes), length-take 8 bytes)

module _ (laws : PassingLaws) (proxy passed : State) (passage : Passage) (step : Step) (takes_up : TakesUp proxy passage) where
  abbrev came : Arrival Message
  came = passage.came

  abbrev message : Message
  message = passage.came.what

  abbrev there : Message
  there = forwarded_by proxy passage

  there_short : length (spelling there) ≤ datagram_limit
  there_short =
      let small = token_short passage.key came.draw in
      let token : length (forwarded_token passage.key came.draw) ≤ length message.token = omega (arith, small, takes_up.token) in
      omega (arith, laws.no_longer (next_own proxy came.draw) (forwarded_token passage.key came.draw) message takes_up.carried.lawful token, takes_up.carried.short)

  key_is : key_for proxy message passage.to ≡ Some passage.key
  key_is = rw takes_up.kind (rw takes_up.there.room takes_up.free)

  case_is : (named : Option HostAndPort) → Names message.options named
      → case_of proxy.targets proxy.exchanges came.from named message ≡ Forwarded passage.to
  case_is named names =
      let port = port_in (value uri_port (recognised 0 message.options)) in
      let same : named ≡ Some (takes_up.host, port) =
      named_by_options message.options named takes_up.host takes_up.no_uri takes_up.scheme takes_up.host_is names in
      ap (λ n. case_of proxy.targets proxy.exchanges came.from n message) same
      ∙ request_case proxy.targets proxy.exchanges came.from passage.to message takes_up.host port takes_up.request takes_up.safe takes_up.no_uri takes_up.scheme takes_up.target

  goes_is : goes_now (is_confirmable message.kind) passage.to (taken_up proxy came) ≡ true
  goes_is = rw takes_up.kind (laws.idle proxy.endpoint.pace passage.to proxy.endpoint.sending takes_up.there.idle)

  acknowledges : acknowledgement message ≡ Some (empty_acknowledgement message.id)
  acknowledges = rw takes_up.kind refl

  out_is : (goes : Bool) → goes ≡ true
      → sends (sent_to came.from (acknowledgement message) ++ sends_own goes passage.to (spelling there))
      ≡ sends (datagram came.from (empty_acknowledgement message.id) ∷ datagram passage.to there ∷ [])
  out_is goes is =
      ap (λ g. sends (sent_to came.from (acknowledgement message) ++ sends_own g passage.to (spelling there))) is
      ∙ ap (λ m. sends (sent_to came.from m ++ sends_own true passage.to (spelling there))) acknowledges

  made_id : (kept_on proxy passage).next_id ≡ Some (answer_id proxy came.draw)
  made_id = rw takes_up.kind refl

  made_sending : (kept_on proxy passage).sending
      ≡ with_open proxy.endpoint.pace came.at passage.to (next_own proxy came.draw) (timeout_of came.draw) (spelling there) proxy.endpoint.sending
  made_sending = rw takes_up.kind refl

  made_seen : (kept_on proxy passage).seen ≡ heard_with proxy came
  made_seen = rw takes_up.kind refl

  passed_so : IsForwarded proxy passage step passed → IsPassedOn proxy passage step passed
  passed_so is =
      record {
        acknowledgement = acknowledgement_carried laws message.id takes_up.carried.lawful.id;
        forwarded = record { lawful = is.lawful; short = there_short };
        told = is.told ∙ out_is (goes_now (is_confirmable message.kind) passage.to (taken_up proxy came)) goes_is;
        targets = is.targets;
        exchange = is.opened;
        more = is.more;
        next_id = ap (λ (e : EndpointState). e.next_id) is.endpoint ∙ made_id;
        seen = ap (λ (e : EndpointState). e.seen) is.endpoint ∙ made_seen;
        sending = ap (λ (e : EndpointState). e.sending) is.endpoint ∙ made_sending;
      }

  forwards : ForwardsBy (key_for proxy message passage.to) proxy came passage.to step passed → IsForwarded proxy passage step passed
  forwards is =
      subst (λ fits. FitsBy fits proxy passage step passed) (le-leb (length (spelling there)) datagram_limit there_short)
      (subst (λ found. ForwardsBy found proxy came passage.to step passed) key_is is)

  pub is_passed_on : Hears proxy (datagram_of passage) step passed → IsPassedOn proxy passage step passed
  is_passed_on hears =
      let received : hears.received ≡ received_as.Message message =
      message_received laws.one_reception message hears.received takes_up.carried hears.receives in
      let as_it : heard proxy.endpoint.seen came.at came.from hears.received ≡ heard_as.Message message =
      ap (heard proxy.endpoint.seen came.at came.from) received
      ∙ request_heard proxy.endpoint.seen came.at came.from message takes_up.kind takes_up.request takes_up.unheard in
      let so : AnswersMessage proxy came step passed = subst (λ h. Answers proxy (datagram_of passage) h step passed) as_it hears.answers in
      passed_so (forwards (subst (λ c. AnswersNew proxy came c step passed) (case_is so.named so.names) so.answers))

-- ---- back

-- what goes back where a confirmable message to the client goes out at once
sent_back : (endpoint : EndpointState) (exchange : Exchange) (message : Message) → exchange.confirmable ≡ true
    → takes exchange.client endpoint.sending ≡ true → goes_at_once endpoint.pace exchange.client endpoint.sending ≡ true
    → back_sends endpoint exchange message ≡ datagram exchange.client message ∷ []
sent_back endpoint exchange message confirmable room idle = rw (confirmable, room, idle) refl

kept_back : (endpoint : EndpointState) (now : Moment) (draw : Draw) (exchange : Exchange) (message : Message) → exchange.confirmable ≡ true
    → takes exchange.client endpoint.sending ≡ true
    → back_kept endpoint now draw exchange message ≡ with_own true endpoint now draw exchange.client (spelling message)
kept_back endpoint now draw exchange message confirmable room = rw (confirmable, room) refl

one_fits : (step : Step) (to : Peer) (message : Message) → step ≡ sends (datagram to message ∷ []) → AreSendable step.out
    → length (spelling message) ≤ datagram_limit
one_fits step to message told fits =
    All-head (λ (sent : Datagram). FitsDatagram sent.bytes) (datagram to message) [] (subst (λ (s : Step). AreSendable s.out) told fits)

module _ (laws : PassingLaws) (proxy passed brought : State) (passage : Passage) (later : Moment) (later_draw : Draw) (response : Message)
    (first step : Step) (lawful : IsLawfulProxy proxy) (takes_up : TakesUp proxy passage) (back : CanSendTo proxy passage.came.from)
    (is : IsPassedOn proxy passage first passed) (answers_it : IsAnswerTo (forwarded_by proxy passage) response) where
  abbrev client : Peer
  client = passage.came.from

  -- the message ID of the forwarded message
  abbrev there_id : ℕ
  there_id = next_own proxy passage.came.draw

  abbrev its : Exchange
  its = exchange_of there_id passage

  abbrev goes_back : Message
  goes_back = answer_by proxy passage response

  abbrev back_id : ℕ
  back_id = answer_id proxy passage.came.draw

  -- the response as it came
  abbrev it : Arrival Message
  it = record { at = later; from = passage.to; draw = later_draw; what = response }

  its_confirmable : its.confirmable ≡ true
  its_confirmable = ap is_confirmable takes_up.kind

  answers_its : answers passage.to response its ≡ true
  answers_its =
      let token : bytes_eq its.token response.token ≡ true = (bytes_eq-Decides its.token response.token).1 (sym answers_it.token) in
      let id : nat_eq its.id response.id ≡ true = eq-eqb its.id response.id (sym answers_it.id) in
      rw (peer_same passage.to passage.to refl, token, answers_it.kind, id) refl

  tokens : HasOwnTokens passed.exchanges
  tokens = tokens_stay proxy.exchanges passed.exchanges passage.key its (drop 1 (token_drawn passage.came.draw)) lawful.own_tokens is.exchange refl

  found : first_key (answers passage.to response) passed.exchanges ≡ Some passage.key
  found = found_by_own passed.exchanges passage.to response passage.key its tokens is.exchange.changed answers_its

  case_back : (named : Option HostAndPort)
      → case_of passed.targets passed.exchanges passage.to named response ≡ Counted passage.key
  case_back named = response_case passed.targets passed.exchanges passage.to named response passage.key answers_it.code found

  own_next : next_own passed later_draw ≡ back_id
  own_next = ap (own_id later_draw) is.next_id

  answer_is : answer_for passed it its ≡ goes_back
  answer_is = rw (answers_it.safe, takes_up.kind) (ap (λ id. answer Confirmable id passage.came.what.token response) own_next)

  abbrev settled_so : EndpointState
  settled_so = counted passed it its

  -- what is open once the response has acknowledged the forwarded message
  settled_sending : settled_so.sending ≡ proxy.endpoint.sending
  settled_sending =
      let once : settled_so.sending ≡ acknowledged passage.to there_id (acknowledged passage.to response.id passed.endpoint.sending) = rw answers_it.kind refl in
      once
      ∙ ap (λ id. acknowledged passage.to there_id (acknowledged passage.to id passed.endpoint.sending)) answers_it.id
      ∙ ap (λ all. acknowledged passage.to there_id (acknowledged passage.to there_id all)) is.sending
      ∙ acknowledged_twice proxy.endpoint.pace passage.came.at passage.to there_id (timeout_of passage.came.draw) (spelling (forwarded_by proxy passage)) proxy.endpoint.sending takes_up.there.idle

  has_way : takes client settled_so.sending ≡ true
  has_way = ap (takes client) settled_sending ∙ back.room

  goes_there : goes_at_once settled_so.pace client settled_so.sending ≡ true
  goes_there = laws.idle settled_so.pace client settled_so.sending (ap (has_open client) settled_sending ∙ back.idle)

  no_acknowledgement : acknowledgement response ≡ None
  no_acknowledgement = rw answers_it.kind refl

  told_back : sends (sent_to passage.to (acknowledgement response) ++ back_sends settled_so its (answer_for passed it its))
      ≡ sends (datagram client goes_back ∷ [])
  told_back =
      ap (λ m. sends (sent_to passage.to m ++ back_sends settled_so its (answer_for passed it its))) no_acknowledgement
      ∙ ap (λ m. sends (back_sends settled_so its m)) answer_is
      ∙ ap sends (sent_back settled_so its goes_back its_confirmable has_way goes_there)

  abbrev kept : EndpointState
  kept = with_own true settled_so later later_draw client (spelling goes_back)

  kept_is : back_kept settled_so later later_draw its (answer_for passed it its) ≡ kept
  kept_is =
      ap (back_kept settled_so later later_draw its) answer_is
      ∙ kept_back settled_so later later_draw its goes_back its_confirmable has_way

  kept_seen : kept.seen ≡ heard_with proxy passage.came
  kept_seen =
      let same : kept.seen ≡ passed.endpoint.seen = rw answers_it.kind refl in
      same ∙ is.seen

  kept_id : own_id later_draw settled_so.next_id ≡ back_id
  kept_id = own_next

  kept_sending : acknowledged client back_id kept.sending ≡ proxy.endpoint.sending
  kept_sending =
      ap (λ id. acknowledged client back_id (with_open settled_so.pace later client id (timeout_of later_draw) (spelling goes_back) settled_so.sending)) kept_id
      ∙ ap (λ all. acknowledged client back_id (with_open settled_so.pace later client back_id (timeout_of later_draw) (spelling goes_back) all)) settled_sending
      ∙ acknowledged_again settled_so.pace later client back_id (timeout_of later_draw) (spelling goes_back) proxy.endpoint.sending back.idle

  brought_so : Counts passage.key passed it step brought → AreSendable step.out → IsBroughtBack proxy passage response step brought
  brought_so counts fits =
      let exchange : counts.exchange ≡ its = same_Some counts.exchange its (sym counts.closes.was ∙ is.exchange.changed) in
      let told : step ≡ sends (datagram client goes_back ∷ []) =
      counts.told
      ∙ ap (λ (e : Exchange). sends (sent_to passage.to (acknowledgement response) ++ back_sends (counted passed it e) e (answer_for passed it e))) exchange
      ∙ told_back in
      let endpoint : brought.endpoint ≡ kept =
      counts.endpoint
      ∙ ap (λ (e : Exchange). back_kept (counted passed it e) later later_draw e (answer_for passed it e)) exchange
      ∙ kept_is in
      let spelled : HasSpelling goes_back =
      subst HasSpelling (ap (λ (e : Exchange). answer_for passed it e) exchange ∙ answer_is) counts.lawful in
      let fewer : count brought.exchanges ≡ count proxy.exchanges = omega (arith, counts.closes.fewer, is.more) in
      record {
        answer = record { lawful = spelled; short = one_fits step client goes_back told fits };
        told = told;
        targets = counts.targets ∙ is.targets;
        closed = counts.closes.closed.changed;
        free = free_again proxy.exchanges brought.exchanges passage.key takes_up.free fewer counts.closes.next;
        lawful = record { own_tokens = tokens_left passed.exchanges brought.exchanges passage.key tokens counts.closes.closed };
        next_id = ap (λ (e : EndpointState). e.next_id) endpoint ∙ ap (λ id. Some ((id + 1) % 65536)) kept_id;
        seen = ap (λ (e : EndpointState). e.seen) endpoint ∙ kept_seen;
        sending = ap (λ (e : EndpointState). acknowledged client back_id e.sending) endpoint ∙ kept_sending;
        acknowledgement = acknowledgement_carried laws back_id spelled.id;
      }

  pub is_brought_back : Hears passed (answered_at passage later later_draw response) step brought → IsBroughtBack proxy passage response step brought
  is_brought_back hears =
      let received : hears.received ≡ received_as.Message response =
      message_received laws.one_reception response hears.received answers_it.carried hears.receives in
      let as_it : heard passed.endpoint.seen later passage.to hears.received ≡ heard_as.Message response =
      ap (heard passed.endpoint.seen later passage.to) received ∙ response_heard passed.endpoint.seen later passage.to response answers_it.kind answers_it.code in
      let so : AnswersMessage passed it step brought =
      subst (λ h. Answers passed (answered_at passage later later_draw response) h step brought) as_it hears.answers in
      brought_so (subst (λ c. AnswersNew passed it c step brought) (case_back so.named) so.answers) hears.fits

-- ---- at rest

pub is_at_rest : OneReception → (proxy brought rested : State) (passage : Passage) (response : Message) (last : Moment) (draw : Draw) (second step : Step)
    → IsBroughtBack proxy passage response second brought
    → Hears brought (acknowledged_at proxy passage last draw) step rested
    → IsAtRest proxy passage step rested
is_at_rest one proxy brought rested passage response last draw second step is hears =
    let from = passage.came.from in
    let came = acknowledged_at proxy passage last draw in
    let id = answer_id proxy passage.came.draw in
    let received : hears.received ≡ received_as.Message (empty_acknowledgement id) =
    message_received one (empty_acknowledgement id) hears.received is.acknowledgement hears.receives in
    let as_it : heard brought.endpoint.seen last from hears.received ≡ heard_as.Empty Acknowledgement id =
    ap (λ r. heard brought.endpoint.seen last from r) received in
    let so : Answers brought came (heard_as.Empty Acknowledgement id) step rested =
    subst (λ h. Answers brought came h step rested) as_it hears.answers in
    record {
      told = so.0;
      targets = ap (λ (s : State). s.targets) so.1 ∙ is.targets;
      closed = ap (λ (s : State). get s.exchanges passage.key) so.1 ∙ is.closed;
      free = ap (λ (s : State). free_key s.exchanges) so.1 ∙ is.free;
      lawful = record { own_tokens = subst (λ (s : State). HasOwnTokens s.exchanges) (sym so.1) is.lawful.own_tokens };
      next_id = ap (λ (s : State). s.endpoint.next_id) so.1 ∙ is.next_id;
      seen = ap (λ (s : State). s.endpoint.seen) so.1 ∙ is.seen;
      sending = ap (λ (s : State). s.endpoint.sending) so.1 ∙ is.sending;
    }
