-- The result of an answer, by its cases.
use Rattle.std.proofs.Common.{◌≡◌, ◌∙◌, sym, ap, ℕ, false, List, Option, Some, None, Result, Ok, Err, refl, subst}
use Rattle.osc_model.specs.{quiet}
use Rattle.osc_model.specs.declared.code.Code.{Code}
use Rattle.osc_model.specs.declared.reply.Reply.{Reply}
use Rattle.osc_model.specs.declared.step.ClientResult.{ClientResult}
use Rattle.osc_model.specs.declared.step.ClientResult.TheVariants as result
use Rattle.osc_model.specs.declared.step.Note.{Note}
use Rattle.osc_coap.specs.Message.{Message}
use Rattle.osc_ccm.specs.{Sealings}
use Rattle.osc_authz.specs.{ClientContextState, Finishes}
use Rattle.osc_authz.specs.Begun.{Begun}
use Rattle.osc_authz.specs.declared.error.FinishError.{FinishError}
use Rattle.osc_authz.specs.declared.error.FinishError.TheVariants.{Fields, EqualIds, Memory}
use Rattle.osc_authz.specs.declared.granted.ClientDesk.{ClientDesk}
use Rattle.osc_run.specs.{ClientStep, ClientIdle, Made, Answered, Ended, IsEnding, IsMade, response_note, ClientState, Nothing, Exchange as OpenExchange, Ask as AskOf}
use Rattle.osc_options.specs.{IsReplyIn}
use Rattle.osc_client.specs.{AskComes, Comes, ExchangeComes, code_of, context_after, ended_by, notes_of, waits_after, outstanding, outstanding_of}
use Rattle.osc_client.specs.Answering as comes
use Rattle.osc_client.specs.Inner.Bounds.{IsOfGrant, NeedsContext}
use Rattle.osc_client.specs.declared.answering.AnswerEffect.{AnswerEffect}
use Rattle.osc_client.specs.declared.answering.AnswerEffect.TheVariants.{Stays, Makes, Answers, Ends}
use Rattle.osc_client.specs.declared.waiting.Awaited.{Awaited}
use Rattle.osc_client.specs.declared.waiting.Awaited.TheVariants.{Exchange, Ask}
use Rattle.osc_client.specs.declared.waiting.OpenAsk.{OpenAsk}
use Rattle.osc_client.specs.declared.waiting.Waiting.{Waiting}
use Rattle.osc_client.proofs.Own.{same_grant}

-- what holds of each outcome
pub record OfEach (desk : ClientDesk) (context : Option ClientContextState) (what : Awaited) (P : AnswerEffect → Type 0) : Type 0 where
  pub stays : (opened : Option Note) → P (Stays opened)
  pub ends : (ending : ClientResult) → IsEnding ending → P (Ends ending)
  pub makes : (begun : Begun) (came : Code) (payload : List ℕ) (made : ClientContextState) → what ≡ Exchange begun → Finishes desk begun came payload (Ok made) → P (Makes made)
  pub answers : (held : ClientContextState) (ask : OpenAsk) (own : Option ℕ) (text : List ℕ) (reply : Reply) → context ≡ Some held → what ≡ Ask ask → IsReplyIn text reply
      → P (Answers (response_note held.name ask.number own text) reply)

-- what waits is something
pub something : (k : Option ClientContextState) (what : Awaited) → NeedsContext k what → outstanding_of k what ≡ Nothing → ⊥
something k (Exchange begun) has e = let wrong : OpenExchange begun ≡ Nothing = e in cc
something (Some held) (Ask ask) has e = let wrong : AskOf (record { context = held.name; number = ask.number }) ≡ Nothing = e in cc
something None (Ask ask) has e = has refl

module _ (is_sealing : Sealings) (desk : ClientDesk) (message : Message) where
  finishing : (context : Option ClientContextState) (begun : Begun) (P : AnswerEffect → Type 0) → OfEach desk context (Exchange begun) P
      → (came : Result ClientContextState FinishError) (code : Code) (payload : List ℕ) → Finishes desk begun code payload came → P (ended_by came)
  finishing context begun P each (Ok made) code payload finishes = each.makes begun code payload made refl finishes
  finishing context begun P each (Err Fields) code payload finishes = each.ends (result.Refused 30) tt
  finishing context begun P each (Err EqualIds) code payload finishes = each.ends (result.Refused 20) tt
  finishing context begun P each (Err (Memory back)) code payload finishes = each.stays None

  of_exchange : (context : Option ClientContextState) (begun : Begun) (outcome : AnswerEffect) → ExchangeComes desk begun message outcome
      → (P : AnswerEffect → Type 0) → OfEach desk context (Exchange begun) P → P outcome
  of_exchange context begun outcome (comes.protected plain is) P each = subst P (sym is) (each.stays None)
  of_exchange context begun outcome (comes.ExchangeComes.other plain a b is) P each = subst P (sym is) (each.stays None)
  of_exchange context begun outcome (comes.ExchangeComes.failed plain error is) P each = subst P (sym is) (each.ends (result.Unverified (code_of message)) tt)
  of_exchange context begun outcome (comes.finished plain a b finish) P each =
      subst P (sym finish.is) (finishing context begun P each finish.came _ _ finish.finishes)

  of_ask : (held : ClientContextState) (ask : OpenAsk) (outcome : AnswerEffect) → AskComes is_sealing held ask message outcome
      → (P : AnswerEffect → Type 0) → OfEach desk (Some held) (Ask ask) P → P outcome
  of_ask held ask outcome (comes.AskComes.failed plain error is) P each = subst P (sym is) (each.ends (result.Unverified (code_of message)) tt)
  of_ask held ask outcome (comes.AskComes.other plain error is) P each = subst P (sym is) (each.stays None)
  of_ask held ask outcome (comes.malformed plain none is) P each = subst P (sym is) (each.stays None)
  of_ask held ask outcome (comes.not_genuine response plain says none is) P each = subst P (sym is) (each.stays None)
  of_ask held ask outcome (comes.no_response response text plain says sealed none is) P each =
      subst P (sym is) (each.stays (Some (response_note held.name ask.number response.own text)))
  of_ask held ask outcome (comes.answered response text reply plain says sealed reads is) P each =
      subst P (sym is) (each.answers held ask response.own text reply refl refl reads)

  pub of_each : (context : Option ClientContextState) (what : Awaited) (outcome : AnswerEffect) → Comes is_sealing desk context what message outcome
      → (P : AnswerEffect → Type 0) → OfEach desk context what P → P outcome
  of_each context (Exchange begun) outcome came P each = of_exchange context begun outcome came P each
  of_each (Some held) (Ask ask) outcome came P each = of_ask held ask outcome came P each
  of_each None (Ask ask) outcome came P each = absurd came

  -- the context is of what was granted
  pub grant_after : (context : Option ClientContextState) (what : Awaited) (outcome : AnswerEffect) → Comes is_sealing desk context what message outcome
      → IsOfGrant desk context → IsOfGrant desk (context_after outcome context)
  grant_after context what outcome came grant =
      of_each context what outcome came (λ o. IsOfGrant desk (context_after o context)) (record {
        stays = λ opened. grant;
        ends = λ ending lawful. grant;
        makes = λ begun code payload made is finishes. same_grant desk begun code payload made finishes;
        answers = λ held ask own text reply has is reads. grant;
      })

  -- which kind of step it is
  pub kind_after : (context : Option ClientContextState) (waiting : Waiting) (outcome : AnswerEffect) → Comes is_sealing desk context waiting.what message outcome
      → NeedsContext context waiting.what
      → ((begun : Begun) (came : Code) (payload : List ℕ) (made : ClientContextState) (old : ClientState) → old.outstanding ≡ OpenExchange begun
      → Finishes old.desk begun came payload (Ok made)
      → IsMade old (record quiet { result = Some result.Made }) (record old { context = Some made; outstanding = Nothing }))
      → ClientStep false (record { desk = desk; context = context; outstanding = outstanding context (Some waiting) }) (notes_of outcome)
      (record { desk = desk; context = context_after outcome context; outstanding = outstanding (context_after outcome context) (waits_after outcome waiting) })
  kind_after context waiting outcome came needs makes =
      of_each context waiting.what outcome came
      (λ o. ClientStep false (record { desk = desk; context = context; outstanding = outstanding context (Some waiting) }) (notes_of o)
      (record { desk = desk; context = context_after o context; outstanding = outstanding (context_after o context) (waits_after o waiting) })) (record {
        stays = λ opened. ClientIdle (record { opened = opened; refusal = None; lost = false; noted = refl; is = refl });
        ends = λ ending lawful. Ended refl (record { result = ending; ending = lawful; lost = false; noted = refl; before = something context waiting.what needs; is = refl });
        makes = λ begun code payload made is finishes. Made refl
            (makes begun code payload made (record { desk = desk; context = context; outstanding = outstanding_of context waiting.what }) (ap (outstanding_of context) is) finishes);
        answers = λ held ask own text reply has is reads. Answered refl (record {
          ask = record { context = held.name; number = ask.number };
          own = own;
          text = text;
          reply = reply;
          reads = reads;
          noted = refl;
          before = ap (outstanding_of context) is ∙ ap (λ k. outstanding_of k (Ask ask)) has;
          is = refl;
        });
      })
