-- What was opened of a protected response has this result.
use Rattle.std.proofs.Common.{◌≡◌, ◌∙◌, ℕ, true, List, Option, Some, ap, subst}
use Rattle.std.specs.Prelude.{IfSome, IfNone}
use Rattle.osc_model.specs.declared.step.Note.{Note}
use Rattle.osc_coap.specs.Message.{Message}
use Rattle.osc_options.specs.{has_oscore}
use Rattle.osc_ccm.specs.{Sealings}
use Rattle.osc_protect.specs.{SealedResponse, IsResponse}
use Rattle.osc_authz.specs.{ClientContextState}
use Rattle.osc_run.specs.{response_note}
use Rattle.osc_client.specs.{AskComes, IsSealedFor, answered, no_response, not_genuine}
use Rattle.osc_client.specs.Inner.Opened.{ComesOf, a_reply, no_reply, nothing}
use Rattle.osc_client.specs.declared.answering.AnswerEffect.{AnswerEffect}
use Rattle.osc_client.specs.declared.answering.AnswerEffect.TheVariants.{Stays, Answers}
use Rattle.osc_client.specs.declared.waiting.OpenAsk.{OpenAsk}

module _ (is_sealing : Sealings) (context : ClientContextState) (ask : OpenAsk) (message : Message) (response : SealedResponse) where
  abbrev IsGenuine : Option Note → Type 0
  IsGenuine opened = IfSome opened (λ note. IsSealedFor is_sealing context ask response note.plaintext)

  abbrev IsNoted : Option Note → Type 0
  IsNoted opened = IfSome opened (λ note. note ≡ response_note context.name ask.number response.own note.plaintext)

  abbrev IsNotGenuine : Option Note → Type 0
  IsNotGenuine opened = IfNone opened ((text : List ℕ) → ¬ IsSealedFor is_sealing context ask response text)

  pub opened_comes : (opened : Option Note) (outcome : AnswerEffect) → has_oscore message.options ≡ true → IsResponse message response
      → IsGenuine opened → IsNoted opened → IsNotGenuine opened → ComesOf opened outcome → AskComes is_sealing context ask message outcome
  opened_comes opened outcome protected says genuine noted none (nothing e is) =
      not_genuine response protected says (subst IsNotGenuine e none) is
  opened_comes opened outcome protected says genuine noted none (no_reply note e never is) =
      no_response response note.plaintext protected says (subst IsGenuine e genuine) never
      (is ∙ ap (λ (n : Note). Stays (Some n)) (subst IsNoted e noted))
  opened_comes opened outcome protected says genuine noted none (a_reply note reply e reads is) =
      answered response note.plaintext reply protected says (subst IsGenuine e genuine) reads
      (is ∙ ap (λ (n : Note). Answers n reply) (subst IsNoted e noted))
