-- What a server notes of whatever it hears: nothing, or one new message, which it answers.
use Rattle.std.proofs.Common.{◌≡◌, ◌∙◌, ap, subst, refl, ℕ, ◌+◌, Bool, true, false, List, [], ◌∷◌, Option, Some, None}
use Rattle.std.specs.Prelude.{◌==◌}
use Rattle.osc_model.specs.{read_as}
use Rattle.osc_model.specs.Arrival.{Arrival}
use Rattle.osc_model.specs.StepNotes.{StepNotes}
use Rattle.osc_model.specs.declared.bytes.Bytes.{Bytes}
use Rattle.osc_model.specs.declared.step.Datagram.{Datagram}
use Rattle.osc_model.specs.declared.step.Step.{Step}
use Rattle.osc_coap.specs.{Spells, is_request_code, spelling}
use Rattle.osc_coap.specs.Message.{Message}
use Rattle.osc_coap.specs.declared.kind.Kind.{Kind}
use Rattle.osc_coap.specs.declared.kind.Kind.TheVariants.{Acknowledgement, Confirmable, NonConfirmable, Reset}
use Rattle.osc_dedup.specs.{looked, with_note}
use Rattle.osc_dedup.specs.declared.table.Remembered.{Remembered}
use Rattle.osc_message.specs.{EndpointState, Receives, datagram, empty_heard, heard, is_reserved, new_or_repeated, rejected}
use Rattle.osc_message.specs.Endpoint.{lifetime}
use Rattle.osc_message.specs.Heard.{carried, message_heard, repeated}
use Rattle.osc_message.specs.declared.heard.Heard.TheVariants as heard_as
use Rattle.osc_message.specs.declared.received.Received.{Received}
use Rattle.osc_message.specs.declared.received.Received.TheVariants as received
use Rattle.osc_ccm.specs.{Sealings}
use Rattle.osc_server.specs.State.{State as Server}
use Rattle.osc_server.specs.{Answers, AnswersNew, AnswersPost, AnswersProtected, Hears, Sends, Serves, answered, answered_again, case_of, refused, served}
use Rattle.osc_server.specs.declared.case.RequestCase.{RequestCase}
use Rattle.osc_server.specs.declared.case.RequestCase.TheVariants.{Unused, BadOption, ProxyAsked, Protected, Posted, NotPosted, OpenGet, Unauthorised}

module _ (is_sealing : Sealings) (old : Server) (came : Arrival (List ℕ)) (step : Step) (new : Server) where
  -- what the desk does for a new message: nothing; or a request is served, or a post is judged
  pub data DeskDoes (message : Message) : Type 0 where
    nothing_there : new.desk ≡ old.desk → DeskDoes message
    serves : Serves is_sealing old (read_as came message) step new → DeskDoes message
    judges : AnswersPost is_sealing old (read_as came message) step new → DeskDoes message

  -- a new message is noted, and answered by one datagram
  pub record NotesOne : Type 0 where
    pub message : Message
    pub does : DeskDoes message
    pub noted : Remembered
    pub sent : Datagram
    pub is : Spells came.what message
    pub was_new : looked came.at came.from message.id old.endpoint.seen ≡ None
    pub out : step.out ≡ sent ∷ []
    pub seen : new.endpoint.seen ≡ with_note came.at came.from message.id noted old.endpoint.seen

  pub data Notes : Type 0 where
    nothing : new.endpoint.seen ≡ old.endpoint.seen → new.desk ≡ old.desk → Notes
    a_message : NotesOne → Notes

  same_server : new ≡ old → Notes
  same_server same = nothing (ap (λ (s : Server). s.endpoint.seen) same) (ap (λ (s : Server). s.desk) same)

  module _ (message : Message) (is : Spells came.what message) where
    abbrev as_message : Arrival Message
    as_message = read_as came message

    abbrev noted_with : Message → Remembered
    noted_with answer = record { until = came.at.ms + lifetime message.kind; reply = Some (spelling answer) }

    seen_confirmable : (answer : Message) → message.kind ≡ Confirmable
        → (answered old.endpoint as_message answer).seen ≡ with_note came.at came.from message.id (noted_with answer) old.endpoint.seen
    seen_confirmable answer kind = rw kind refl

    seen_other : (answer : Message) → message.kind ≡ NonConfirmable
        → (answered old.endpoint as_message answer).seen ≡ with_note came.at came.from message.id (noted_with answer) old.endpoint.seen
    seen_other answer kind = rw kind refl

    -- it is answered, where it is a new one that can be repeated
    module _ (was_new : looked came.at came.from message.id old.endpoint.seen ≡ None)
        (seen_is : (answer : Message) → (answered old.endpoint as_message answer).seen ≡ with_note came.at came.from message.id (noted_with answer) old.endpoint.seen) where
      sent_one : (before : Server) (answer : Message) (notes : StepNotes) → before.endpoint ≡ old.endpoint → DeskDoes message → Sends before as_message answer notes step new → Notes
      sent_one before answer notes same does it =
          a_message
          (record {
            message = message;
            does = does;
            noted = noted_with answer;
            sent = datagram came.from answer;
            is = is;
            was_new = was_new;
            out = ap (λ (s : Step). s.out) it.sent;
            seen = ap (λ (s : Server). s.endpoint.seen) it.kept ∙ ap (λ (e : EndpointState). (answered e as_message answer).seen) same ∙ seen_is answer;
          })

      idle : (answer : Message) (notes : StepNotes) → Sends old as_message answer notes step new → Notes
      idle answer notes it = sent_one old answer notes refl (nothing_there (ap (λ (s : Server). s.desk) it.kept)) it

      protected_so : AnswersProtected is_sealing old as_message step new → Notes
      protected_so (refused refusal why it) = idle _ _ it
      protected_so (answered_again request held last again stale it) = idle _ _ it
      protected_so (served it) = sent_one _ it.answer _ refl (serves it) it.sent

      by_case : (c : RequestCase) → AnswersNew is_sealing old as_message c step new → Notes
      by_case Unused it = same_server it.1
      by_case BadOption it = idle _ _ it
      by_case ProxyAsked it = idle _ _ it
      by_case (Protected bytes) it = protected_so it
      by_case Posted it = sent_one _ _ _ refl (judges it) it.sent
      by_case NotPosted it = idle _ _ it
      by_case (OpenGet granted) it = idle _ _ it.replies
      by_case Unauthorised it = idle _ _ it

    -- no request
    not_a_request : is_request_code message.code ≡ false → AnswersNew is_sealing old as_message (case_of old.open_scope message) step new → Notes
    not_a_request isnt it =
        let case_is : case_of old.open_scope message ≡ Unused = rw isnt refl in
        let so : AnswersNew is_sealing old as_message Unused step new = subst (λ (c : RequestCase). AnswersNew is_sealing old as_message c step new) case_is it in
        same_server so.1

    repeated_so : (kind : Kind) (reply : Option Bytes) → Answers is_sealing old came (repeated came.from kind reply) step new → Notes
    repeated_so Confirmable reply it = same_server it.1
    repeated_so NonConfirmable reply it = same_server it.1
    repeated_so Acknowledgement reply it = same_server it.1
    repeated_so Reset reply it = same_server it.1

    new_one : ((answer : Message) → (answered old.endpoint as_message answer).seen ≡ with_note came.at came.from message.id (noted_with answer) old.endpoint.seen)
        → (was : Option Remembered) → looked came.at came.from message.id old.endpoint.seen ≡ was
        → Answers is_sealing old came (new_or_repeated came.from message was) step new → Notes
    new_one seen_is None was it = by_case was seen_is (case_of old.open_scope message) it
    new_one seen_is (Some noted) was it = repeated_so message.kind noted.reply it

    in_acknowledgement : (b : Bool) → is_request_code message.code ≡ b → Answers is_sealing old came (carried old.endpoint.seen came.at came.from Acknowledgement message) step new → Notes
    in_acknowledgement true is_code it =
        let so : Answers is_sealing old came (heard_as.Alone []) step new = rw is_code at it in
        same_server so.1
    in_acknowledgement false is_code it =
        let so : Answers is_sealing old came (heard_as.Message message) step new = rw is_code at it in
        not_a_request is_code so

    carried_so : (kind : Kind) → message.kind ≡ kind → Answers is_sealing old came (carried old.endpoint.seen came.at came.from kind message) step new → Notes
    carried_so Confirmable same it = new_one (λ answer. seen_confirmable answer same) (looked came.at came.from message.id old.endpoint.seen) refl it
    carried_so NonConfirmable same it = new_one (λ answer. seen_other answer same) (looked came.at came.from message.id old.endpoint.seen) refl it
    carried_so Acknowledgement same it = in_acknowledgement (is_request_code message.code) refl it
    carried_so Reset same it = same_server it.1

    empty_so : (kind : Kind) → Answers is_sealing old came (empty_heard came.from kind message.id) step new → Notes
    empty_so Confirmable it = same_server it.1
    empty_so NonConfirmable it = same_server it.1
    empty_so Acknowledgement it = nothing (ap (λ (s : Server). s.endpoint.seen) it.1) (ap (λ (s : Server). s.desk) it.1)
    empty_so Reset it = nothing (ap (λ (s : Server). s.endpoint.seen) it.1) (ap (λ (s : Server). s.desk) it.1)

    message_so : (empty reserved : Bool) → (message.code == 0) ≡ empty → is_reserved message.code ≡ reserved
        → Answers is_sealing old came (message_heard old.endpoint.seen came.at came.from message) step new → Notes
    message_so true reserved a b it =
        let so : Answers is_sealing old came (empty_heard came.from message.kind message.id) step new = rw a at it in
        empty_so message.kind so
    message_so false true a b it =
        let so : Answers is_sealing old came (rejected came.from message.kind message.id) step new = rw (a, b) at it in
        same_server so.1
    message_so false false a b it =
        let so : Answers is_sealing old came (carried old.endpoint.seen came.at came.from message.kind message) step new = rw (a, b) at it in
        carried_so message.kind refl so

  received_so : (it : Received) → Receives came.what it → Answers is_sealing old came (heard old.endpoint.seen came.at came.from it) step new → Notes
  received_so received.Nothing is it = same_server it.1
  received_so (received.Malformed kind id) is it = same_server it.1
  received_so (received.Message message) is it = message_so message is.1 (message.code == 0) (is_reserved message.code) refl refl it

  pub notes : Hears is_sealing old came step new → Notes
  notes hears = received_so hears.received hears.receives hears.answers
