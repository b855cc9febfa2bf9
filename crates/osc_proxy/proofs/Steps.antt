-- What a step sends is two datagrams at most, and it seals and opens nothing. At most it refuses a request.
use Rattle.std.proofs.Common.{◌≡◌, ◌≤◌, ◌++◌, ℕ, Bool, true, false, List, length, ap, Option, Some, None, arith}
use Rattle.std.proofs.lemmas.List.{length-append}
use Rattle.std.specs.Prelude.{nat_le}
use Rattle.osc_model.specs.{read_as, sends, quiet}
use Rattle.osc_model.specs.Arrival.{Arrival}
use Rattle.osc_model.specs.declared.bytes.Bytes.{Bytes}
use Rattle.osc_model.specs.declared.code.Code.{Code}
use Rattle.osc_model.specs.declared.node.Peer.{Peer}
use Rattle.osc_model.specs.declared.step.Datagram.{Datagram}
use Rattle.osc_model.specs.declared.step.RefusedRequest.{RefusedRequest}
use Rattle.osc_model.specs.declared.step.Step.{Step}
use Rattle.osc_coap.specs.{datagram_limit, spelling}
use Rattle.osc_coap.specs.Message.{Message}
use Rattle.osc_coap.specs.declared.kind.Kind.{Kind}
use Rattle.osc_coap.specs.declared.kind.Kind.TheVariants.{Confirmable, NonConfirmable, Acknowledgement, Reset as ResetKind}
use Rattle.osc_dedup.specs.{Entry}
use Rattle.osc_message.specs.{AnswersAlone, IsAlone, ignores, noted_reply, rejects, repeats, acknowledgement, again, is_confirmable, rejection, sent_to}
use Rattle.osc_message.specs.declared.heard.Heard.{Heard}
use Rattle.osc_message.specs.declared.heard.Heard.TheVariants as heard
use Rattle.osc_model.specs.declared.node.Moment.{Moment}
use Rattle.osc_proxy.specs.{ended_by, first_key, is_named, goes_now, sends_own, Answers, AnswersNew, FitsBy, ForwardsBy, IsForwarded, IsRefused, Settles, answer_for, back_sends, counted, forwarded_by, key_for, named, bad_gateway, taken_up}
use Rattle.osc_proxy.specs.State.{State}
use Rattle.osc_proxy.specs.Passage.{Passage}
use Rattle.osc_proxy.specs.declared.case.ForwardCase.{ForwardCase}
use Rattle.osc_proxy.specs.declared.case.ForwardCase.TheVariants.{Refused, Forwarded, Counted, Unused}
use Rattle.osc_proxy.proofs.Ending.{one_back}

-- a step that sends at most two datagrams, and does nothing else, but that it may refuse a request
pub record IsSmall (step : Step) : Type 0 where
  pub few : length step.out ≤ 2
  pub refused : Option RefusedRequest
  pub nothing : step.notes ≡ record quiet { refused = refused }

small : (step : Step) (out : List Datagram) → step ≡ sends out → length out ≤ 2 → IsSmall step
small step out e few = record { few = omega (arith, few, ap (λ (s : Step). length s.out) e); refused = None; nothing = ap (λ (s : Step). s.notes) e }

one_again : (from : Peer) (noted : Option Bytes) → length (again from noted) ≤ 2
one_again from None = omega arith
one_again from (Some bytes) = omega arith

one_sent_to : (to : Peer) (message : Option Message) → length (sent_to to message) ≤ 1
one_sent_to to None = omega arith
one_sent_to to (Some message) = omega arith

one_own : (goes : Bool) (to : Peer) (bytes : List ℕ) → length (sends_own goes to bytes) ≤ 1
one_own true to bytes = omega arith
one_own false to bytes = omega arith

two : (xs ys : List Datagram) → length xs ≤ 1 → length ys ≤ 1 → length (xs ++ ys) ≤ 2
two xs ys a b = omega (arith, a, b, length-append xs ys)

refused_small : (why : Code) (old : State) (came : Arrival Message) (step : Step) (new : State) → IsRefused why old came step new → IsSmall step
refused_small why old came step new is = record {
  few = omega (arith, ap (λ (s : Step). length s.out) is.told);
  refused = Some (record { code = why; reason = None });
  nothing = ap (λ (s : Step). s.notes) is.told;
}

forwarded_small : (old : State) (passage : Passage) (step : Step) (new : State) → IsForwarded old passage step new → IsSmall step
forwarded_small old passage step new is =
    let from = passage.came.from in
    let message = passage.came.what in
    let goes = goes_now (is_confirmable message.kind) passage.to (taken_up old passage.came) in
    small step _ is.told
    (two (sent_to from (acknowledgement message)) (sends_own goes passage.to (spelling (forwarded_by old passage))) (one_sent_to from (acknowledgement message))
    (one_own goes passage.to (spelling (forwarded_by old passage))))

fits_small : (fits : Bool) (old : State) (passage : Passage) (step : Step) (new : State) → FitsBy fits old passage step new → IsSmall step
fits_small false old passage step new is = refused_small _ old passage.came step new is
fits_small true old passage step new is = forwarded_small old passage step new is

forwards_small : (found : Option ℕ) (old : State) (came : Arrival Message) (to : Peer) (step : Step) (new : State)
    → ForwardsBy found old came to step new → IsSmall step
forwards_small None old came to step new is = refused_small _ old came step new is
forwards_small (Some key) old came to step new is =
    let passage : Passage = record { came = came; to = to; key = key } in
    fits_small (nat_le (length (spelling (forwarded_by old passage))) datagram_limit) old passage step new is

one_rejection : (from : Peer) (kind : Kind) (id : ℕ) → length (rejection from kind id) ≤ 2
one_rejection from Confirmable id = omega arith
one_rejection from NonConfirmable id = omega arith
one_rejection from Acknowledgement id = omega arith
one_rejection from ResetKind id = omega arith

alone_small : (seen : List Entry) (now : Moment) (from : Peer) (out : List Datagram) → IsAlone seen now from out → length out ≤ 2
alone_small seen now from out (ignores is) = omega (arith, ap (λ (o : List Datagram). length o) is)
alone_small seen now from out (rejects id spelled is) = omega (arith, ap (λ (o : List Datagram). length o) is)
alone_small seen now from out (repeats id is) = omega (arith, ap (λ (o : List Datagram). length o) is, one_again from (noted_reply seen now from id))

settles_small : (found : Option ℕ) (kind : Kind) (old : State) (came : Arrival ℕ) (step : Step) (new : State) → Settles found kind old came step new → IsSmall step
settles_small None kind old came step new is = small step _ is.0 (omega arith)
settles_small (Some key) kind old came step new is =
    small step _ is.told (omega (arith, one_back (named old came) is.exchange (bad_gateway old came.draw is.exchange)))

new_small : (old : State) (came : Arrival Message) (case : ForwardCase) (step : Step) (new : State) → AnswersNew old came case step new → IsSmall step
new_small old came (Refused why) step new is = refused_small why old came step new is
new_small old came (Forwarded to) step new is = forwards_small (key_for old came.what to) old came to step new is
new_small old came (Counted key) step new is =
    let answer = answer_for old came is.exchange in
    small step _ is.told
    (two (sent_to came.from (acknowledgement came.what)) (back_sends (counted old came is.exchange) is.exchange answer)
    (one_sent_to came.from (acknowledgement came.what)) (one_back (counted old came is.exchange) is.exchange answer))
new_small old came Unused step new is = small step _ is.0 (one_rejection came.from came.what.kind came.what.id)

pub small_step : (old : State) (came : Arrival (List ℕ)) (it : Heard) (step : Step) (new : State) → AnswersAlone old.endpoint.seen came.at came.from it
    → Answers old came it step new → IsSmall step
small_step old came (heard.Alone out) step new alone is = small step _ is.0 (alone_small old.endpoint.seen came.at came.from out alone)
small_step old came (heard.Empty kind id) step new alone is =
    settles_small (ended_by kind (first_key (is_named came.from id) old.exchanges)) kind old (read_as came id) step new is
small_step old came (heard.Message message) step new alone is = new_small old (read_as came message) _ step new is.answers
