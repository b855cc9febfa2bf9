-- A protected request that comes again.
use Rattle.std.proofs.Common.{◌≡◌, ℕ, List, [], ◌∷◌, Option, Some, None, refl, subst, ap, ◌∙◌}
use Rattle.std.specs.Prelude.{unwrap_or}
use Rattle.osc_model.specs.{sends}
use Rattle.osc_model.specs.Arrival.{Arrival}
use Rattle.osc_model.specs.declared.bytes.Bytes.{Bytes}
use Rattle.osc_model.specs.declared.step.Datagram.{Datagram}
use Rattle.osc_model.specs.declared.step.Step.{Step}
use Rattle.osc_coap.specs.{payload_of}
use Rattle.osc_coap.specs.Message.{Message}
use Rattle.osc_authz.specs.{LastAnswerState}
use Rattle.osc_authz.specs.SecurityContext.{SecurityContext}
use Rattle.osc_ccm.specs.{Sealings}
use Rattle.osc_protect.specs.{SealedRequest, IsRequest}
use Rattle.osc_window.specs.{IsFresh}
use Rattle.osc_server.specs.{AnswersProtected, IsMeant, IsRefused, Met, again_to, answered_again, met}
use Rattle.osc_server.specs.Inner.Parts.{HasAnswer, IsSentAs, IsUnserved, noted_by}
use Rattle.osc_server.specs.State.{State}
use Rattle.osc_server.specs.declared.refusal.Refusal.{Refusal}
use Rattle.osc_server.specs.declared.refusal.Refusal.TheVariants.{Malformed, NoContext, Replayed, NotGenuine}

-- a payload, where there is one
pub payload_back : (bytes : List ℕ) → unwrap_or (payload_of bytes) [] ≡ bytes
payload_back [] = refl
payload_back (byte ∷ bytes) = refl

module _ (is_sealing : Sealings)
    (one_request : (m : Message) (a b : SealedRequest) → IsRequest m a → IsRequest m b → a ≡ b)
    (came : Arrival Message) (says : SealedRequest) (is : IsRequest came.what says) where
  -- the context that it means, in which its number isn't fresh
  stale : (server : Met) (refusal : Refusal) → IsUnserved is_sealing server came refusal → refusal ≡ Replayed
      → (held : SecurityContext) × IsMeant server came says held × (¬ IsFresh held.window says.number)
  stale server refusal why same =
      let it : IsUnserved is_sealing server came Replayed = subst (IsUnserved is_sealing server came) same why in
      subst (λ (r : SealedRequest). (held : SecurityContext) × IsMeant server came r held × (¬ IsFresh held.window r.number))
      (one_request came.what it.0 says it.2.is_request is) (it.1, it.2, it.3)

  -- it is answered by what is kept
  pub answers_again : (old : State) (refusal : Refusal) (last : LastAnswerState) (out : List Datagram) (reply : Bytes) (step : Step) (new : State)
      → IsUnserved is_sealing (met old) came refusal → refusal ≡ Replayed → HasAnswer old.desk.table came says last
      → IsSentAs came.from (again_to old.endpoint came last) out reply
      → step ≡ sends out → new ≡ record old { endpoint = noted_by old.endpoint came reply } → AnswersProtected is_sealing old came step new
  answers_again old refusal last out reply step new why same has sent told kept =
      let it = stale (met old) refusal why same in
      answered_again says it.0 last (record { meant = it.1; kept = has.0; answer = has.1 }) it.2 (record {
        sent = told ∙ ap sends sent.sent;
        spelled = sent.spelled;
        kept = kept ∙ ap (λ (bytes : Bytes). record old { endpoint = noted_by old.endpoint came bytes }) sent.kept;
      })

  -- where nothing is kept for it, it is refused
  pub not_again : (server : Met) (refusal : Refusal) → IsUnserved is_sealing server came refusal
      → (refusal ≡ Replayed → (last : LastAnswerState) → ¬ HasAnswer server.table came says last) → IsRefused is_sealing server came refusal
  not_again server Malformed why none = why
  not_again server NoContext why none = why
  not_again server NotGenuine why none = why
  not_again server Replayed why none = (
    why.0,
    why.1,
    why.2,
    why.3,
    λ last again. none refl last
        (subst (λ (r : SealedRequest). HasAnswer server.table came r last) (one_request came.what why.0 says why.2.is_request is) (again.kept, again.answer)),
  )
