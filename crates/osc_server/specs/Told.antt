-- What the notes of a step tell of the datagrams that go out and of the one that came in.
use Rattle.std.specs.Prelude.{◌≡◌, ℕ, false, List, [], ◌∷◌, Some, unwrap_or}
use Rattle.std.specs.List.{All}
use Rattle.osc_model.specs.{read_as}
use Rattle.osc_model.specs.Arrival.{Arrival}
use Rattle.osc_model.specs.StepNotes.{StepNotes}
use Rattle.osc_model.specs.declared.algorithm.Algorithm.TheVariants.{EightByteTag}
use Rattle.osc_model.specs.declared.step.Datagram.{Datagram}
use Rattle.osc_model.specs.declared.step.Note.{Note}
use Rattle.osc_model.specs.declared.step.Step.{Step}
use Rattle.osc_coap.specs.{Spells, spelling}
use Rattle.osc_coap.specs.Message.{Message}
use Rattle.osc_options.specs.{has_oscore}
use Rattle.osc_authz.specs.{IsKeyFor, IsOpened as OpensToken, OpenedToken}
use Rattle.osc_authz.specs.LastAnswer.{LastAnswerState}
use Rattle.osc_authz.specs.SecurityContext.{SecurityContext}
use Rattle.osc_message.specs.{noted_reply}
use Rattle.osc_protect.specs.{SealedRequest}
use Rattle.osc_run.specs.{IsOpenOf, IsSealOf}
use Rattle.osc_token.specs.{token_note}
use Rattle.osc_ccm.specs.{Sealings}
use Rattle.osc_server.specs.State.{State}
use Rattle.osc_server.specs.Table.{IsAgain, again_to, met}

-- `is_sealing algorithm` is the relation of the algorithm's cipher
module _ (is_sealing : Sealings) where
  -- A datagram's message has no OSCORE option; or it was sealed in this step, as noted; or it answered a message before, which
  -- is repeated; or it was sealed before, for the request that came: it carries what the context that the request means keeps for it.
  pub data IsToldOf (old : State) (came : Arrival (List ℕ)) (notes : StepNotes) (sent : Datagram) : Type 0 where
    unprotected : (message : Message) → sent.bytes ≡ spelling message → has_oscore message.options ≡ false → IsToldOf old came notes sent
    sealed_now : (note : Note) → notes.seals ≡ Some note → IsSealOf is_sealing note sent → IsToldOf old came notes sent
    sent_before : (id : ℕ) → noted_reply old.endpoint.seen came.at came.from id ≡ Some sent.bytes → IsToldOf old came notes sent
    sealed_before : (message : Message) (request : SealedRequest) (held : SecurityContext) (last : LastAnswerState) → Spells came.what message
        → IsAgain (met old) (read_as came message) request held last
        → sent.bytes ≡ spelling (again_to old.endpoint (read_as came message) last) → IsToldOf old came notes sent

  -- what the note says was opened is in the message that these bytes are: it is a protected request, or the token of a post
  pub data IsOpenedOf (old : State) (note : Note) (bytes : List ℕ) : Type 0 where
    request_came : IsOpenOf is_sealing note bytes → IsOpenedOf old note bytes
    token_came : (message : Message) (key nonce1 client_id : List ℕ) (its : OpenedToken) → Spells bytes message
        → (post_is : OpensToken (is_sealing EightByteTag) key (unwrap_or message.payload []) nonce1 client_id its)
        → IsKeyFor (is_sealing EightByteTag) old.desk post_is.token key
        → note ≡ token_note key its.protected its.iv its.text → IsOpenedOf old note bytes

  -- Each datagram is told of so; what is noted as sealed is the one that is sent; and what is noted as opened is the one that came.
  pub record AreTold (old : State) (came : Arrival (List ℕ)) (step : Step) : Type 0 where
    pub out : All (λ sent. IsToldOf old came step.notes sent) step.out
    pub seals : (note : Note) → step.notes.seals ≡ Some note → (sent : Datagram) × (step.out ≡ sent ∷ []) × IsSealOf is_sealing note sent
    pub opens : (note : Note) → step.notes.opens ≡ Some note → IsOpenedOf old note came.what
