-- What a tick leaves open, and what it sends.
use Rattle.std.proofs.Common.{◌≡◌, ◌≤◌, ◌<◌, ◌+◌, ℕ, Bool, true, false, not, ◌&&◌, List, [], ◌∷◌, ◌++◌, length, refl, ap, sym, ◌∙◌, arith, Some}
use Rattle.std.specs.Prelude.{filter, if◌then◌else◌}
use Rattle.std.specs.List.{All, Contains, filter_map}
use Rattle.std.proofs.lemmas.Bool.{leb-false, not-true, or_parts}
use Rattle.std.proofs.lemmas.List.{length-append}
use Rattle.std.proofs.lemmas.List.Filters.{length-filter_both}
use Rattle.std.proofs.lemmas.List.Elements.{All-append, All-cons, All-contains_itself, All-filter, All-head, All-nil, All-same, All-tail, All-weaker, filter_passes}
use Rattle.osc_coap.specs.{spelling}
use Rattle.osc_coap.specs.Message.{Message}
use Rattle.osc_model.specs.{exchange_lifetime}
use Rattle.osc_model.specs.declared.node.Draw.{Draw}
use Rattle.osc_model.specs.declared.node.Moment.{Moment}
use Rattle.osc_model.specs.declared.node.Peer.{Peer}
use Rattle.osc_model.specs.declared.step.Datagram.{Datagram}
use Rattle.osc_model.specs.declared.step.Step.{Step}
use Rattle.osc_message.specs.Pace.{Pace}
use Rattle.osc_message.specs.{Open, EndpointState, after_tick, GoesOut, datagram_of, due_of, dues, tick_gives_up, tick_sends}
use Rattle.osc_message.specs.declared.due.Due.{Due}
use Rattle.osc_message.specs.declared.due.Due.TheVariants.{Keep, Send, GiveUp}
use Rattle.osc_message.specs.declared.name.MessageName.{MessageName}
use Rattle.osc_proxy.specs.{EachHasItsExchange, is_its, is_of_over, is_request, without_over, count, entries, get, is_overdue, goes_now, sends_own, back_sends, has_way_back, AllEnd, AreOfExchanges, IsOfExchange, is_given_up, is_over, timed_out, timeout, without_its, without_over_in}
use Rattle.osc_proxy.specs.Exchanges.{Table}
use Rattle.osc_proxy.specs.State.{State}
use Rattle.osc_proxy.specs.Ticks.{Ticks}
use Rattle.osc_proxy.specs.Ticks.AllEnd.{none_is, one_is}
use Rattle.osc_proxy.specs.declared.exchanges.Exchange.{Exchange}
use Rattle.osc_proxy.proofs.Codes.{no_request}
use Rattle.osc_proxy.proofs.Ending.{few_end}
use Rattle.osc_proxy.proofs.Its.{Its, each_back, each_closed, each_ticked}
use Rattle.osc_proxy.proofs.Keys.{none_found, none_passes, some_found}

-- ---- no exchange is over

none_left : (now : Moment) (draw : Draw) (names : List MessageName) (old new : State) (out : List Datagram) → AllEnd now draw names old out new
    → (key : ℕ) (exchange : Exchange) → get new.exchanges key ≡ Some exchange → is_over now names exchange ≡ false
none_left now draw names old new out (none_is state none) = none_passes (is_over now names) state.exchanges none
none_left now draw names old new out (one_is was last left key exchange later found closes lawful rest) =
    none_left now draw names (timed_out was now draw exchange left) last later rest

-- once what is due was done
abbrev begun : Moment → State → State
begun now old = record old { endpoint = after_tick now (without_over_in now old) }

pub none_overdue : (old new : State) (now : Moment) (draw : Draw) (step : Step) → Ticks old now draw step new
    → (key : ℕ) (exchange : Exchange) → get new.exchanges key ≡ Some exchange → is_overdue now exchange ≡ false
none_overdue old new now draw step ticks key exchange is =
    let names = tick_gives_up old.endpoint.pace now (without_over now old.exchanges old.endpoint.sending) in
    (or_parts (is_given_up names exchange) (is_overdue now exchange)
    (none_left now draw names (begun now old) new ticks.answers ticks.ends key exchange is)).1

pub left_ends : (old new : State) (now : Moment) (draw : Draw) (step : Step) → Ticks old now draw step new
    → (key : ℕ) (exchange : Exchange) → get new.exchanges key ≡ Some exchange → now.ms < exchange.opened.ms + exchange_lifetime
left_ends old new now draw step ticks key exchange is =
    leb-false (exchange.opened.ms + exchange_lifetime) now.ms (none_overdue old new now draw step ticks key exchange is)

-- ---- each open request has its exchange

timeout_is_none : (endpoint : EndpointState) (draw : Draw) (exchange : Exchange) → is_request (spelling (timeout endpoint draw exchange)) ≡ false
timeout_is_none endpoint draw exchange = no_request (timeout endpoint draw exchange) refl

each_left : (now : Moment) (draw : Draw) (names : List MessageName) (old new : State) (out : List Datagram) → AllEnd now draw names old out new
    → EachHasItsExchange old.exchanges old.endpoint.sending → EachHasItsExchange new.exchanges new.endpoint.sending
each_left now draw names old new out (none_is state none) each = each
each_left now draw names old new out (one_is was last left key exchange later found closes lawful rest) each =
    let answer = timeout was.endpoint draw exchange in
    each_left now draw names (timed_out was now draw exchange left) last later rest
    (each_back left exchange.confirmable (without_its was.endpoint exchange) now draw exchange.client (spelling answer)
    (λ _. timeout_is_none was.endpoint draw exchange)
    (each_closed was.exchanges left key exchange (is_its exchange) was.endpoint.sending closes.was closes.closed (λ message its. its) each))

pub each_after : (old new : State) (now : Moment) (draw : Draw) (step : Step) → Ticks old now draw step new
    → EachHasItsExchange old.exchanges old.endpoint.sending → EachHasItsExchange new.exchanges new.endpoint.sending
each_after old new now draw step ticks each =
    let left = without_over now old.exchanges old.endpoint.sending in
    let kept : EachHasItsExchange old.exchanges left =
    All-filter (λ message. not (is_of_over now (entries old.exchanges) message)) (Its old.exchanges) old.endpoint.sending each in
    each_left now draw (tick_gives_up old.endpoint.pace now left) (begun now old) new ticks.answers ticks.ends
    (each_ticked old.endpoint.pace now old.exchanges left kept)

-- ---- each request that goes out is that of an exchange

abbrev Of : State → Moment → Datagram → Type 0
Of old now sent = is_request sent.bytes ≡ true → IsOfExchange old now sent

abbrev copy : Open → Datagram
copy message = record { to = message.to; bytes = message.bytes }

lasting : (now : Moment) (table : Table) (message : Open) (key : ℕ) (exchange : Exchange) → not (is_of_over now (entries table) message) ≡ true
    → get table key ≡ Some exchange → is_its exchange message ≡ true → is_overdue now exchange ≡ false
lasting now table message key exchange kept is its =
    let test : Exchange → Bool = λ e. is_overdue now e && is_its e message in
    let fails : test exchange ≡ false = none_passes test table (none_found test table (not-true (is_of_over now (entries table) message) kept)) key exchange is in
    by (is_overdue now exchange) (is_its exchange message) fails its
  where
    by : (over names : Bool) → (over && names) ≡ false → names ≡ true → over ≡ false
    by true names none same = absurd (cc)
    by false names none same = refl

of_open : (old : State) (now : Moment) (message : Open) → not (is_of_over now (entries old.exchanges) message) ≡ true → Its old.exchanges message
    → Contains old.endpoint.sending message → Of old now (copy message)
of_open old now message kept its is_open request =
    let found = some_found (λ e. is_its e message) old.exchanges (its request) in
    record {
      message = message;
      is_open = is_open;
      sent_is = refl;
      key = found.key;
      exchange = found.there.exchange;
      is = found.there.is;
      its = found.there.passes;
      lasts = lasting now old.exchanges message found.key found.there.exchange kept found.there.is found.there.passes;
    }

of_due : (old : State) (now : Moment) (message : Open) (due : Due) (pairs : List (Open × Due)) → Of old now (copy message)
    → All (Of old now) (filter_map datagram_of pairs) → All (Of old now) (filter_map datagram_of ((message, due) ∷ pairs))
of_due old now message Keep pairs own rest = rest
of_due old now message Send pairs own rest = All-cons (Of old now) (copy message) (filter_map datagram_of pairs) own rest
of_due old now message GiveUp pairs own rest = rest

of_among : (old : State) (pace : Pace) (now : Moment) (all earlier later : List Open) → All (λ message. Of old now (copy message)) later
    → All (Of old now) (filter_map datagram_of (dues pace now all earlier later))
of_among old pace now all earlier [] each = All-nil (Of old now)
of_among old pace now all earlier (message ∷ later) each =
    of_due old now message (due_of pace now all earlier message message.sent) (dues pace now all (earlier ++ message ∷ []) later)
    (All-head (λ m. Of old now (copy m)) message later each)
    (of_among old pace now all (earlier ++ message ∷ []) later (All-tail (λ m. Of old now (copy m)) message later each))

of_sent : (old : State) (now : Moment) → EachHasItsExchange old.exchanges old.endpoint.sending
    → All (Of old now) (tick_sends old.endpoint.pace now (without_over now old.exchanges old.endpoint.sending))
of_sent old now each =
    let sending = old.endpoint.sending in
    let kept : Open → Bool = λ message. not (is_of_over now (entries old.exchanges) message) in
    let passes = filter_passes kept sending in
    let its = All-filter kept (Its old.exchanges) sending each in
    let there = All-filter kept (Contains sending) sending (All-contains_itself sending) in
    let left = filter kept sending in
    of_among old old.endpoint.pace now left [] left
    (All-weaker (λ m. (kept m ≡ true) × Its old.exchanges m × Contains sending m) (λ m. Of old now (copy m))
    (λ m all. of_open old now m all.0 all.1 all.2) left (λ k d within. (passes k d within, its k d within, there k d within)))

none_of : (old : State) (now : Moment) (to : Peer) (bytes : List ℕ) (goes : Bool) → is_request bytes ≡ false → All (Of old now) (sends_own goes to bytes)
none_of old now to bytes true other =
    All-cons (Of old now) (record { to = to; bytes = bytes }) []
    (λ request.
    let wrong : true ≡ false = sym request ∙ other in
    absurd (cc))
    (All-nil (Of old now))
none_of old now to bytes false other = All-nil (Of old now)

none_back : (old : State) (now : Moment) (endpoint : EndpointState) (exchange : Exchange) (message : Message) → is_request (spelling message) ≡ false
    → All (Of old now) (back_sends endpoint exchange message)
none_back old now endpoint exchange message other = by (has_way_back endpoint exchange)
  where
    by : (room : Bool)
        → All (Of old now) (if room then sends_own (goes_now exchange.confirmable exchange.client endpoint) exchange.client (spelling message) else [])
    by true = none_of old now exchange.client (spelling message) (goes_now exchange.confirmable exchange.client endpoint) other
    by false = All-nil (Of old now)

of_answers : (old : State) (now : Moment) (draw : Draw) (names : List MessageName) (first new : State) (out : List Datagram)
    → AllEnd now draw names first out new → All (Of old now) out
of_answers old now draw names first new out (none_is state none) = All-nil (Of old now)
of_answers old now draw names first new out (one_is was last left key exchange later found closes lawful rest) =
    let answer = timeout was.endpoint draw exchange in
    All-append (Of old now) (back_sends (without_its was.endpoint exchange) exchange answer) later
    (none_back old now (without_its was.endpoint exchange) exchange answer (timeout_is_none was.endpoint draw exchange))
    (of_answers old now draw names (timed_out was now draw exchange left) last later rest)

of_those : (old : State) (now : Moment) (lost : Bool) (due out : List Datagram) → GoesOut lost due out → All (Of old now) due → All (Of old now) out
of_those old now false due out all each = All-same (Of old now) out due all each
of_those old now true due out none each = All-same (Of old now) out [] none (All-nil (Of old now))

pub requests_are : (old new : State) (now : Moment) (draw : Draw) (step : Step) → Ticks old now draw step new
    → EachHasItsExchange old.exchanges old.endpoint.sending → AreOfExchanges old now step.out
requests_are old new now draw step ticks each =
    let names = tick_gives_up old.endpoint.pace now (without_over now old.exchanges old.endpoint.sending) in
    All-same (Of old now) step.out (ticks.repeats ++ ticks.told_answers) ticks.told
    (All-append (Of old now) ticks.repeats ticks.told_answers
    (of_those old now ticks.lost_repeats _ ticks.repeats ticks.repeated (of_sent old now each))
    (of_those old now ticks.lost_answers ticks.answers ticks.told_answers ticks.answered
    (of_answers old now draw names (begun now old) new ticks.answers ticks.ends)))

-- ---- how much is sent

those_few : (lost : Bool) (due out : List Datagram) → GoesOut lost due out → length out ≤ length due
those_few false due out all = omega (arith, ap length all)
those_few true due out none = omega (arith, ap length none)

fewer : {X : Type 0} (test : X → Bool) (xs : List X) → length (filter test xs) ≤ length xs
fewer test xs = omega (arith, length-filter_both test (λ x. not (test x)) (λ x. refl) xs)

pub few_sent : ((pace : Pace) (now : Moment) (all : List Open) → length (tick_sends pace now all) ≤ length all) → (old new : State) (now : Moment) (draw : Draw) (step : Step)
    → Ticks old now draw step new → length step.out ≤ length old.endpoint.sending + count old.exchanges
few_sent few old new now draw step ticks =
    let left = without_over now old.exchanges old.endpoint.sending in
    let repeats = those_few ticks.lost_repeats (tick_sends old.endpoint.pace now left) ticks.repeats ticks.repeated in
    let sent = few old.endpoint.pace now left in
    let kept = fewer (λ message. not (is_of_over now (entries old.exchanges) message)) old.endpoint.sending in
    let answers = those_few ticks.lost_answers ticks.answers ticks.told_answers ticks.answered in
    let ended = few_end now draw (tick_gives_up old.endpoint.pace now left) (begun now old) new ticks.answers ticks.ends in
    let whole = ap length ticks.told ∙ length-append ticks.repeats ticks.told_answers in
    omega (arith, repeats, sent, kept, answers, ended, whole)
