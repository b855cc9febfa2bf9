-- What a client sends for each thing that it hears, and what it keeps after it.
use Rattle.std.specs.Prelude.{◌≡◌, ◌≢◌, ℕ, Bool, true, false, List, [], ◌∷◌, Option, Some, None, option_map}
use Rattle.osc_model.specs.{read_as, code, sends, quiet}
use Rattle.osc_model.specs.Arrival.{Arrival}
use Rattle.osc_model.specs.declared.node.Peer.{Peer}
use Rattle.osc_model.specs.declared.step.ClientResult.TheVariants.{Unverified}
use Rattle.osc_model.specs.declared.step.Datagram.{Datagram}
use Rattle.osc_model.specs.declared.step.Step.{Step}
use Rattle.osc_coap.specs.{bare, spelling}
use Rattle.osc_coap.specs.Message.{Message}
use Rattle.osc_coap.specs.declared.kind.Kind.TheVariants.{Acknowledgement}
use Rattle.osc_message.specs.{EndpointState, settled, acknowledgement, datagram, is_confirmable, rejection, sent_to}
use Rattle.osc_message.specs.declared.handling.Handling.TheVariants as handling
use Rattle.osc_message.specs.declared.heard.Heard.{Heard}
use Rattle.osc_message.specs.declared.heard.Heard.TheVariants as heard
use Rattle.osc_ccm.specs.{Sealings}
use Rattle.osc_client.specs.Answering.{Comes, CountsInMemory, context_after, notes_of, waits_after}
use Rattle.osc_client.specs.Case.{case_of, is_ended}
use Rattle.osc_client.specs.State.{State}
use Rattle.osc_client.specs.declared.answering.AnswerEffect.{AnswerEffect}
use Rattle.osc_client.specs.declared.case.ResponseCase.{ResponseCase}
use Rattle.osc_client.specs.declared.case.ResponseCase.TheVariants.{Refused, Unused, Counted}
use Rattle.osc_client.specs.declared.waiting.Waiting.{Waiting}

-- 4.02 (Bad Option), in the acknowledgement of the request (RFC 7252 section 5.4.1)
abbrev pub refusal : Message → Message
refusal message = bare Acknowledgement (code 4 2).0 message.id message.token

-- one datagram at most, to this peer
abbrev pub SendsOne : Peer → List Datagram → Type 0
SendsOne peer [] = Unit {0}
SendsOne peer (sent ∷ []) = sent.to ≡ peer
SendsOne peer (sent ∷ next ∷ later) = ⊥

-- An empty message was heard: this is the message layer once what it names is settled. A Reset ends what waits, as code 0.00.
abbrev pub Settles : Bool → State → EndpointState → Step → State → Type 0
Settles false old endpoint step new = (step ≡ sends []) × (new ≡ record old { endpoint = endpoint })
Settles true old endpoint step new =
    (step ≡ record { out = []; notes = record quiet { result = Some (Unverified (code 0 0)) } })
    × (new ≡ record old { waiting = None; endpoint = endpoint })

-- `is_sealing algorithm` is the relation of the algorithm's cipher
module _ (is_sealing : Sealings) where
  -- A response that counts acknowledges the message that it answers, is noted, and is acknowledged where it is confirmable (RFC 7252
  -- sections 4.2 and 5.2.2), whatever its result is.
  pub record Counts (old : State) (came : Arrival Message) (step : Step) (new : State) : Type 0 where
    pub waiting : Waiting
    pub waits : old.waiting ≡ Some waiting
    pub outcome : AnswerEffect
    pub comes : Comes is_sealing old.desk old.context waiting.what came.what outcome
    pub told : step ≡ record { out = sent_to came.from (acknowledgement came.what); notes = notes_of outcome }
    pub kept : new
        ≡ record old {
          context = context_after outcome old.context;
          waiting = waits_after outcome waiting;
          endpoint = settled old.endpoint came.at came.from (heard.Message came.what) (handling.Counted waiting.id (option_map spelling (acknowledgement came.what)));
        }

  -- A new message, in each case. What a client has no use for is rejected, where it is confirmable, and else ignored; an acknowledgement
  -- acknowledges all the same.
  abbrev pub AnswersNew : State → Arrival Message → ResponseCase → Step → State → Type 0
  AnswersNew old came Refused step new =
      (step ≡ sends (datagram came.from (refusal came.what) ∷ []))
      × (new ≡ record old { endpoint = settled old.endpoint came.at came.from (heard.Message came.what) (handling.Answered (Some (spelling (refusal came.what)))) })
  AnswersNew old came Unused step new =
      (step ≡ sends (rejection came.from came.what.kind came.what.id))
      × (new ≡ record old { endpoint = settled old.endpoint came.at came.from (heard.Message came.what) handling.Dropped })
  AnswersNew old came Counted step new = Counts old came step new

  -- What the message layer answers by itself changes nothing; an empty message is settled; a new message is answered as its case says.
  abbrev pub Answers : State → Arrival (List ℕ) → Heard → Step → State → Type 0
  Answers old came (heard.Alone out) step new = (step ≡ sends out) × (new ≡ old)
  Answers old came (heard.Empty kind id) step new =
      Settles (is_ended old.next_hop came.from kind id old.waiting) old (settled old.endpoint came.at came.from (heard.Empty kind id) handling.Dropped) step new
  Answers old came (heard.Message message) step new = AnswersNew old (read_as came message) (case_of old.next_hop came.from old.waiting message) step new

-- What takes memory of a new message: what is sent, or read.
abbrev pub NewTakesMemory : Option Waiting → Message → ResponseCase → Type 0
NewTakesMemory waiting message Refused = Unit {0}
NewTakesMemory waiting message Unused = is_confirmable message.kind ≡ true
NewTakesMemory waiting message Counted = CountsInMemory waiting message

-- the same of all that is heard
abbrev pub TakesMemory : State → Peer → Heard → Type 0
TakesMemory old from (heard.Alone out) = out ≢ []
TakesMemory old from (heard.Empty kind id) = ⊥
TakesMemory old from (heard.Message message) = NewTakesMemory old.waiting message (case_of old.next_hop from old.waiting message)
