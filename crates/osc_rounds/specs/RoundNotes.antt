-- What the steps of a round note, which is all that what is assumed of a run speaks of.
use Rattle.std.specs.Prelude.{◌≡◌, ◌⊎◌, ℕ, List, [], ◌∷◌, Option, Some, None}
use Rattle.osc_model.specs.{nonce_drawn, quiet}
use Rattle.osc_model.specs.StepNotes.{StepNotes}
use Rattle.osc_model.specs.declared.node.Draw.{Draw}
use Rattle.osc_model.specs.declared.node.Moment.{Moment}
use Rattle.osc_model.specs.declared.reply.Reply.{Reply}
use Rattle.osc_model.specs.declared.step.ClientResult.TheVariants as result
use Rattle.osc_token.specs.{token_note}
use Rattle.osc_run.specs.{request_note, response_note, Noted}
use Rattle.osc_options.specs.{reply_text}
use Rattle.osc_server.specs.{notes_of_request}
use Rattle.osc_rounds.specs.Asked.{OpenedRequest}

-- The steps of `all` are these, in this order, and others that noted nothing, as those of a forward proxy.
abbrev pub AreAmongQuiet : List Noted → List Noted → Type 0
AreAmongQuiet steps [] = steps ≡ []
AreAmongQuiet steps (one ∷ all) =
    ((one.notes ≡ quiet) × AreAmongQuiet steps all) ⊎ ((rest : List Noted) × (steps ≡ one ∷ rest) × AreAmongQuiet rest all)

-- A request: the client sealed this text, the server opened it and sealed the reply, and the client opened that, all three under one
-- context and number (RFC 8613 sections 8.1 to 8.4).
pub record AreNotesOfRequest (now : Moment) (request : OpenedRequest) (reply : Reply) (asked served answered : StepNotes) : Type 0 where
  pub holder : Option (List ℕ)
  pub asked_is : asked ≡ record quiet { seals = Some (request_note request.held.name request.number request.text) }
  pub served_is : served ≡ notes_of_request now request.held holder request.number request.text reply
  pub answered_is : answered
      ≡ record quiet {
        opens = Some (response_note request.held.name request.number None (reply_text reply));
        result = Some (result.Answer reply);
      }

-- the server opened a token of this text and some id, which was sealed under this key, and drew a nonce
pub record AreNotesOfAgreement (key text : List ℕ) (draw : Draw) (agreed : StepNotes) : Type 0 where
  pub protected : List ℕ
  pub iv : List ℕ
  pub id : List ℕ
  pub is : agreed ≡ record quiet { opens = Some (token_note key protected iv text); drawn = Some (nonce_drawn draw); holder = Some id }

-- what client and server draw in an exchange
pub record Draws : Type 0 where
  pub client : Draw
  pub server : Draw

-- An exchange: the client drew a nonce, the server opened a token of this text and drew a nonce, and the client learnt that a context
-- is made (RFC 9203 section 4).
pub record AreNotesOfExchange (key text : List ℕ) (draws : Draws) (begun agreed made : StepNotes) : Type 0 where
  pub begun_is : begun ≡ record quiet { drawn = Some (nonce_drawn draws.client) }
  pub agreed_is : AreNotesOfAgreement key text draws.server agreed
  pub made_is : made ≡ record quiet { result = Some result.Made }
