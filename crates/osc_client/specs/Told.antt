-- What the notes of a step tell of the datagrams that go out and of the one that came in.
use Rattle.std.specs.Prelude.{◌≡◌, ◌≢◌, ℕ, false, List, [], ◌∷◌, Option, Some, None}
use Rattle.std.specs.List.{All, Contains}
use Rattle.osc_model.specs.StepNotes.{StepNotes}
use Rattle.osc_model.specs.declared.node.Moment.{Moment}
use Rattle.osc_model.specs.declared.reply.Reply.{Reply}
use Rattle.osc_model.specs.declared.step.ClientResult.TheVariants.{Answer}
use Rattle.osc_model.specs.declared.step.Datagram.{Datagram}
use Rattle.osc_model.specs.declared.step.Note.{Note}
use Rattle.osc_model.specs.declared.step.Step.{Step}
use Rattle.osc_coap.specs.{spelling}
use Rattle.osc_coap.specs.Message.{Message}
use Rattle.osc_options.specs.{has_oscore, IsReplyIn}
use Rattle.osc_message.specs.{Open, noted_reply}
use Rattle.osc_ccm.specs.{Sealings}
use Rattle.osc_run.specs.{IsOpenOf, IsSealOf}
use Rattle.osc_client.specs.State.{State}

-- A datagram for which nothing is sealed in this step: its message has no OSCORE option; or it is an open message, which is sent
-- again; or it answered a message before, which is repeated.
pub data NeedsNoSeal (old : State) (now : Moment) (sent : Datagram) : Type 0 where
  unprotected : (message : Message) → sent.bytes ≡ spelling message → has_oscore message.options ≡ false → NeedsNoSeal old now sent
  open_before : (message : Open) → Contains old.endpoint.sending message → sent ≡ record { to = message.to; bytes = message.bytes }
      → NeedsNoSeal old now sent
  noted_before : (id : ℕ) → noted_reply old.endpoint.seen now sent.to id ≡ Some sent.bytes → NeedsNoSeal old now sent

-- a step that seals, opens and answers nothing
pub record SealsNothing (old : State) (now : Moment) (step : Step) : Type 0 where
  pub out : All (λ sent. NeedsNoSeal old now sent) step.out
  pub seals : step.notes.seals ≡ None
  pub opens : step.notes.opens ≡ None
  pub answers : (reply : Reply) → step.notes.result ≢ Some (Answer reply)

-- `is_sealing algorithm` is the relation of the algorithm's cipher
module _ (is_sealing : Sealings) where
  -- it was sealed in this step, as noted, or needs no seal
  pub data IsToldOf (old : State) (now : Moment) (notes : StepNotes) (sent : Datagram) : Type 0 where
    sealed_now : (note : Note) → notes.seals ≡ Some note → IsSealOf is_sealing note sent → IsToldOf old now notes sent
    needs_none : NeedsNoSeal old now sent → IsToldOf old now notes sent

  -- Each datagram is told of so; what is noted as sealed is the one that is sent; what is noted as opened is the one that came; and
  -- an answer is the reply in what was opened.
  pub record AreTold (old : State) (now : Moment) (came : Option (List ℕ)) (step : Step) : Type 0 where
    pub out : All (λ sent. IsToldOf old now step.notes sent) step.out
    pub seals : (note : Note) → step.notes.seals ≡ Some note → (sent : Datagram) × (step.out ≡ sent ∷ []) × IsSealOf is_sealing note sent
    pub opens : (note : Note) → step.notes.opens ≡ Some note → (bytes : List ℕ) × (came ≡ Some bytes) × IsOpenOf is_sealing note bytes
    pub answers : (reply : Reply) → step.notes.result ≡ Some (Answer reply)
        → (note : Note) × (step.notes.opens ≡ Some note) × IsReplyIn note.plaintext reply
