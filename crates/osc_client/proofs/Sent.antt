-- What a client sends for a datagram: one at most, to whom that came from.
use Rattle.std.proofs.Common.{◌≡◌, sym, ap, ℕ, Bool, true, false, List, [], ◌∷◌, Option, Some, None, refl, subst}
use Rattle.osc_model.specs.declared.bytes.Bytes.{Bytes}
use Rattle.osc_model.specs.{read_as}
use Rattle.osc_model.specs.Arrival.{Arrival}
use Rattle.osc_model.specs.declared.node.Peer.{Peer}
use Rattle.osc_model.specs.declared.step.Datagram.{Datagram}
use Rattle.osc_model.specs.declared.step.Step.{Step}
use Rattle.osc_coap.specs.Message.{Message}
use Rattle.osc_message.specs.{EndpointState, AnswersAlone, IsAlone, ignores, noted_reply, rejects, repeats, acknowledgement, again, datagram, rejection, sent_to}
use Rattle.osc_coap.specs.declared.kind.Kind.{Kind}
use Rattle.osc_coap.specs.declared.kind.Kind.TheVariants.{Confirmable, NonConfirmable, Acknowledgement, Reset}
use Rattle.osc_dedup.specs.{Entry}
use Rattle.osc_message.specs.declared.heard.Heard.{Heard}
use Rattle.osc_message.specs.declared.heard.Heard.TheVariants as heard
use Rattle.osc_model.specs.declared.node.Moment.{Moment}
use Rattle.osc_ccm.specs.{Sealings}
use Rattle.osc_client.specs.{case_of, is_ended, Answers, AnswersNew, SendsOne, Settles, refusal}
use Rattle.osc_client.specs.State.{State}
use Rattle.osc_client.specs.declared.case.ResponseCase.{ResponseCase}
use Rattle.osc_client.specs.declared.case.ResponseCase.TheVariants.{Refused, Unused, Counted}

sent_by : (from : Peer) (step : Step) (out : List Datagram) → step.out ≡ out → SendsOne from out → SendsOne from step.out
sent_by from step out is one = subst (SendsOne from) (sym is) one

again_one : (from : Peer) (bytes : Option Bytes) → SendsOne from (again from bytes)
again_one from None = tt
again_one from (Some bytes) = refl

sent_one : (from : Peer) (message : Option Message) → SendsOne from (sent_to from message)
sent_one from None = tt
sent_one from (Some message) = refl

settled_one : (ends : Bool) (old : State) (endpoint : EndpointState) (from : Peer) (step : Step) (new : State) → Settles ends old endpoint step new
    → SendsOne from step.out
settled_one false old endpoint from step new settled = sent_by from step [] (ap (λ (s : Step). s.out) settled.0) tt
settled_one true old endpoint from step new settled = sent_by from step [] (ap (λ (s : Step). s.out) settled.0) tt

rejection_one : (from : Peer) (kind : Kind) (id : ℕ) → SendsOne from (rejection from kind id)
rejection_one from Confirmable id = refl
rejection_one from NonConfirmable id = tt
rejection_one from Acknowledgement id = tt
rejection_one from Reset id = tt

alone_one : (seen : List Entry) (now : Moment) (from : Peer) (out : List Datagram) → IsAlone seen now from out → SendsOne from out
alone_one seen now from out (ignores is) = rw is tt
alone_one seen now from out (rejects id spelled is) = rw is refl
alone_one seen now from out (repeats id is) = rw is (again_one from (noted_reply seen now from id))

new_one : (is_sealing : Sealings) (old : State) (came : Arrival Message) (case : ResponseCase) (step : Step) (new : State) → AnswersNew is_sealing old came case step new
    → SendsOne came.from step.out
new_one is_sealing old came Refused step new answers =
    sent_by came.from step (datagram came.from (refusal came.what) ∷ []) (ap (λ (s : Step). s.out) answers.0) refl
new_one is_sealing old came Unused step new answers =
    sent_by came.from step (rejection came.from came.what.kind came.what.id) (ap (λ (s : Step). s.out) answers.0) (rejection_one came.from came.what.kind came.what.id)
new_one is_sealing old came Counted step new answers =
    sent_by came.from step (sent_to came.from (acknowledgement came.what)) (ap (λ (s : Step). s.out) answers.told) (sent_one came.from (acknowledgement came.what))

pub one_is_sent : (is_sealing : Sealings) (old : State) (came : Arrival (List ℕ)) (it : Heard) (step : Step) (new : State) → AnswersAlone old.endpoint.seen came.at came.from it
    → Answers is_sealing old came it step new → SendsOne came.from step.out
one_is_sent is_sealing old came (heard.Alone out) step new alone answers =
    sent_by came.from step out (ap (λ (s : Step). s.out) answers.0) (alone_one old.endpoint.seen came.at came.from out alone)
one_is_sent is_sealing old came (heard.Empty kind id) step new alone answers =
    settled_one (is_ended old.next_hop came.from kind id old.waiting) old _ came.from step new answers
one_is_sent is_sealing old came (heard.Message message) step new alone answers =
    new_one is_sealing old (read_as came message) (case_of old.next_hop came.from old.waiting message) step new answers
