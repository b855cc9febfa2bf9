-- The result of an answer that counts (RFC 8613 section 8.4, RFC 9203 section 4.2).
use Rattle.std.specs.Prelude.{◌≡◌, ℕ, ◌/◌, Bool, true, false, ◌==◌, ◌||◌, List, [], Option, Some, None, Result, Ok, Err, unwrap_or}
use Rattle.osc_model.specs.Refusals as refusal
use Rattle.osc_model.specs.{quiet, code}
use Rattle.osc_model.specs.StepNotes.{StepNotes}
use Rattle.osc_model.specs.declared.code.Code.{Code}
use Rattle.osc_model.specs.declared.context.Side.TheVariants.{Server}
use Rattle.osc_model.specs.declared.reply.Reply.{Reply}
use Rattle.osc_model.specs.declared.step.ClientResult.TheVariants as result
use Rattle.osc_cbor.specs.{DataItem, IsWhole}
use Rattle.osc_coap.specs.Message.{Message}
use Rattle.osc_message.specs.{is_confirmable}
use Rattle.osc_options.specs.{has_oscore, IsReplyIn}
use Rattle.osc_context.specs.{algorithm_of, key_of}
use Rattle.osc_protect.specs.{aad_of, SealedResponse, IsResponse, response_nonce}
use Rattle.osc_ccm.specs.{Sealings}
use Rattle.osc_authz.specs.{ClientContextState, Finishes}
use Rattle.osc_authz.specs.Begun.{Begun}
use Rattle.osc_authz.specs.declared.error.FinishError.{FinishError}
use Rattle.osc_authz.specs.declared.error.FinishError.TheVariants.{Fields, EqualIds, Memory}
use Rattle.osc_authz.specs.declared.granted.ClientDesk.{ClientDesk}
use Rattle.osc_run.specs.{response_note}
use Rattle.osc_client.specs.declared.answering.AnswerEffect.{AnswerEffect}
use Rattle.osc_client.specs.declared.answering.AnswerEffect.TheVariants.{Stays, Makes, Answers, Ends}
use Rattle.osc_client.specs.declared.waiting.Awaited.{Awaited}
use Rattle.osc_client.specs.declared.waiting.Awaited.TheVariants.{Exchange, Ask}
use Rattle.osc_client.specs.declared.waiting.OpenAsk.{OpenAsk}
use Rattle.osc_client.specs.declared.waiting.Waiting.{Waiting}

-- classes 4 and 5, and class 2 (RFC 7252 section 5.9)
abbrev pub is_error : ℕ → Bool
is_error code = (code / 32 == 4) || (code / 32 == 5)

abbrev pub is_success : ℕ → Bool
is_success code = code / 32 == 2

abbrev pub code_of : Message → Code
code_of message = record { 0 = message.code }

-- ---- the answer to an exchange

abbrev pub ended_by : Result ClientContextState FinishError → AnswerEffect
ended_by (Ok made) = Makes made
ended_by (Err Fields) = Ends (result.Refused refusal.fields)
ended_by (Err EqualIds) = Ends (result.Refused refusal.equal_ids)
ended_by (Err (Memory begun)) = Stays None

-- a success finishes it
pub record IsFinish (desk : ClientDesk) (begun : Begun) (message : Message) (outcome : AnswerEffect) : Type 0 where
  pub came : Result ClientContextState FinishError
  pub finishes : Finishes desk begun (code_of message) (unwrap_or message.payload []) came
  pub is : outcome ≡ ended_by came

-- One that is protected, or of another class than 2, 4 and 5, changes nothing. An error ends it, and a success finishes it.
pub data ExchangeComes (desk : ClientDesk) (begun : Begun) (message : Message) (outcome : AnswerEffect) : Type 0 where
  protected : has_oscore message.options ≡ true → outcome ≡ Stays None → ExchangeComes desk begun message outcome
  other : has_oscore message.options ≡ false → is_error message.code ≡ false → is_success message.code ≡ false → outcome ≡ Stays None
      → ExchangeComes desk begun message outcome
  failed : has_oscore message.options ≡ false → is_error message.code ≡ true → outcome ≡ Ends (result.Unverified (code_of message))
      → ExchangeComes desk begun message outcome
  finished : has_oscore message.options ≡ false → is_error message.code ≡ false → is_success message.code ≡ true
      → IsFinish desk begun message outcome → ExchangeComes desk begun message outcome

-- ---- the answer to a protected request

-- `is_sealing algorithm` is the relation of the algorithm's cipher
module _ (is_sealing : Sealings) where
  -- this text is sealed in it, for the request
  abbrev pub IsSealedFor : ClientContextState → OpenAsk → SealedResponse → List ℕ → Type 0
  IsSealedFor context ask response text =
      is_sealing (algorithm_of context.name) (key_of context.name Server) (response_nonce context.name ask.number response.own) (aad_of context.name ask.number) text response.sealed

  -- An error without protection ends it, and anything else without protection changes nothing. What isn't a protected response, or
  -- doesn't open, changes nothing; what opens and is no response is noted. A response answers it.
  pub data AskComes (context : ClientContextState) (ask : OpenAsk) (message : Message) (outcome : AnswerEffect) : Type 0 where
    failed : has_oscore message.options ≡ false → is_error message.code ≡ true → outcome ≡ Ends (result.Unverified (code_of message))
        → AskComes context ask message outcome
    other : has_oscore message.options ≡ false → is_error message.code ≡ false → outcome ≡ Stays None → AskComes context ask message outcome
    malformed : has_oscore message.options ≡ true → ((response : SealedResponse) → ¬ IsResponse message response) → outcome ≡ Stays None
        → AskComes context ask message outcome
    not_genuine : (response : SealedResponse) → has_oscore message.options ≡ true → IsResponse message response
        → ((text : List ℕ) → ¬ IsSealedFor context ask response text) → outcome ≡ Stays None → AskComes context ask message outcome
    no_response : (response : SealedResponse) (text : List ℕ) → has_oscore message.options ≡ true → IsResponse message response
        → IsSealedFor context ask response text → ((reply : Reply) → ¬ IsReplyIn text reply)
        → outcome ≡ Stays (Some (response_note context.name ask.number response.own text)) → AskComes context ask message outcome
    answered : (response : SealedResponse) (text : List ℕ) (reply : Reply) → has_oscore message.options ≡ true → IsResponse message response
        → IsSealedFor context ask response text → IsReplyIn text reply
        → outcome ≡ Answers (response_note context.name ask.number response.own text) reply → AskComes context ask message outcome

  -- the result of the answer, by what waits
  abbrev pub Comes : ClientDesk → Option ClientContextState → Awaited → Message → AnswerEffect → Type 0
  Comes desk context (Exchange begun) message outcome = ExchangeComes desk begun message outcome
  Comes desk (Some context) (Ask ask) message outcome = AskComes context ask message outcome
  Comes desk None (Ask ask) message outcome = ⊥

-- ---- what is read in memory

-- of an answer to an exchange its payload, where it is 2.01 without protection and an item; and a protected response to a request
abbrev pub IsRead : Awaited → Message → Type 0
IsRead (Exchange begun) message =
    (has_oscore message.options ≡ false) × (code_of message ≡ code 2 1) × ((item : DataItem) × IsWhole (unwrap_or message.payload []) item)
IsRead (Ask ask) message = (has_oscore message.options ≡ true) × ((response : SealedResponse) × IsResponse message response)

-- A response that counts takes memory for its acknowledgement, where it is confirmable, and to be read.
pub data CountsInMemory (waiting : Option Waiting) (message : Message) : Type 0 where
  acknowledged : is_confirmable message.kind ≡ true → CountsInMemory waiting message
  is_read : (what : Waiting) → waiting ≡ Some what → IsRead what.what message → CountsInMemory waiting message

-- ---- what is kept then

abbrev pub awaited_after : AnswerEffect → Awaited → Option Awaited
awaited_after (Stays opened) awaited = Some awaited
awaited_after outcome awaited = None

abbrev pub waits_after : AnswerEffect → Waiting → Option Waiting
waits_after (Stays opened) waiting = Some waiting
waits_after outcome waiting = None

abbrev pub context_after : AnswerEffect → Option ClientContextState → Option ClientContextState
context_after (Makes made) context = Some made
context_after outcome context = context

abbrev pub notes_of : AnswerEffect → StepNotes
notes_of (Stays opened) = record quiet { opens = opened }
notes_of (Makes made) = record quiet { result = Some result.Made }
notes_of (Answers note reply) = record quiet { opens = Some note; result = Some (result.Answer reply) }
notes_of (Ends ending) = record quiet { result = Some ending }
