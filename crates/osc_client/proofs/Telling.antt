-- The notes of a step tell of its datagrams.
use Rattle.std.proofs.Common.{◌≡◌, ℕ, Bool, true, false, ◌++◌, if◌then◌else◌, List, [], ◌∷◌, Option, Some, None, Result, Ok, Err, refl, sym, subst, ap}
use Rattle.std.specs.List.{All, Contains, filter_map}
use Rattle.std.proofs.lemmas.List.Elements.{All-nil, All-cons, All-head, All-contains_itself, Contains-append_right}
use Rattle.std.proofs.lemmas.Option.{same_Some}
use Rattle.osc_model.specs.{sends, quiet, quiet_or_lost}
use Rattle.osc_model.specs.StepNotes.{StepNotes}
use Rattle.osc_model.specs.declared.bytes.Bytes.{Bytes}
use Rattle.osc_model.specs.declared.context.ContextName.{ContextName}
use Rattle.osc_model.specs.declared.node.Draw.{Draw}
use Rattle.osc_model.specs.declared.node.Moment.{Moment}
use Rattle.osc_model.specs.declared.node.Peer.{Peer}
use Rattle.osc_model.specs.declared.reply.Reply.{Reply}
use Rattle.osc_model.specs.declared.request.Request.{Request}
use Rattle.osc_model.specs.declared.step.ClientResult.{ClientResult}
use Rattle.osc_model.specs.declared.step.ClientResult.TheVariants as result
use Rattle.osc_model.specs.declared.step.ClientResult.TheVariants.{Answer}
use Rattle.osc_model.specs.declared.step.Datagram.{Datagram}
use Rattle.osc_model.specs.declared.step.Note.{Note}
use Rattle.osc_model.specs.declared.step.Step.{Step}
use Rattle.osc_coap.specs.{Spells}
use Rattle.osc_coap.specs.Message.{Message}
use Rattle.osc_options.specs.{has_oscore, IsReplyIn}
use Rattle.osc_ccm.specs.{Sealings, Tags}
use Rattle.osc_protect.specs.{IsRequestOf, plain_bytes}
use Rattle.osc_authz.specs.{ClientContextState}
use Rattle.osc_authz.specs.Begun.{Begun}
use Rattle.osc_authz.specs.declared.error.FinishError.{FinishError}
use Rattle.osc_authz.specs.declared.error.FinishError.TheVariants.{Fields, EqualIds, Memory}
use Rattle.osc_message.specs.{Open, EndpointState, AnswersAlone, IsAlone, ignores, noted_reply, rejects, repeats, GoesOut, empty_acknowledgement, is_confirmable, rejection, reset, again, datagram, sent_to, datagram_of, due_of, dues, tick_sends}
use Rattle.osc_coap.specs.declared.kind.Kind.{Kind}
use Rattle.osc_coap.specs.declared.kind.Kind.TheVariants.{Confirmable, NonConfirmable, Acknowledgement, Reset}
use Rattle.osc_message.specs.declared.heard.Heard.{Heard}
use Rattle.osc_message.specs.declared.heard.Heard.TheVariants as heard
use Rattle.osc_message.specs.declared.due.Due.{Due}
use Rattle.osc_message.specs.declared.due.Due.TheVariants.{Keep, Send, GiveUp}
use Rattle.osc_run.specs.{IsEnding, request_note, response_note, IsOpenOf, IsSealOf}
use Rattle.osc_client.specs.{AskComes, Comes, ExchangeComes, code_of, ended_by, notes_of, case_of, is_ended, Asks, asks, hindered, plain_of, refusing, Answers, AnswersNew, Counts, Settles, refusal, AreTold, IsToldOf, NeedsNoSeal, SealsNothing, needs_none, noted_before, open_before, sealed_now, unprotected}
use Rattle.osc_client.specs.Answering as comes
use Rattle.osc_client.specs.State.{State}
use Rattle.osc_client.specs.declared.answering.AnswerEffect.{AnswerEffect}
use Rattle.osc_client.specs.declared.answering.AnswerEffect.TheVariants as outcome
use Rattle.osc_client.specs.declared.case.ResponseCase.{ResponseCase}
use Rattle.osc_client.specs.declared.case.ResponseCase.TheVariants as case
use Rattle.osc_client.specs.declared.waiting.Awaited.{Awaited}
use Rattle.osc_client.specs.declared.waiting.Awaited.TheVariants.{Exchange, Ask}
use Rattle.osc_client.specs.declared.waiting.OpenAsk.{OpenAsk}

-- ---- steps that seal nothing

module _ (old : State) (now : Moment) where
  as_silent : (step it : Step) → step ≡ it → SealsNothing old now it → SealsNothing old now step
  as_silent step it e told = subst (SealsNothing old now) (sym e) told

  none_plain : All (λ it. NeedsNoSeal old now it) []
  none_plain = All-nil (λ it. NeedsNoSeal old now it)

  one_plain : (sent : Datagram) → NeedsNoSeal old now sent → All (λ it. NeedsNoSeal old now it) (sent ∷ [])
  one_plain sent plain = All-cons (λ it. NeedsNoSeal old now it) sent [] plain none_plain

  -- it only sends
  silent : (out : List Datagram) → All (λ it. NeedsNoSeal old now it) out → SealsNothing old now (sends out)
  silent out plain = record { out = plain; seals = refl; opens = refl; answers = λ reply e. cc }

  -- something ends so
  silent_end : (out : List Datagram) (ending : ClientResult) (lost : Bool) → IsEnding ending → All (λ it. NeedsNoSeal old now it) out
      → SealsNothing old now (record { out = out; notes = record quiet { result = Some ending; lost = lost } })
  silent_end out ending lost ends plain = record { out = plain; seals = refl; opens = refl; answers = no_answer ending ends }
    where
      no_answer : (e : ClientResult) → IsEnding e → (reply : Reply) → Some e ≡ Some (Answer reply) → ⊥
      no_answer e lawful reply is = subst IsEnding (same_Some e (Answer reply) is) lawful

  silent_refusal : (number : ℕ) → SealsNothing old now (refusing number)
  silent_refusal number = silent_end [] (result.Refused number) false tt none_plain

  silent_message : (to : Peer) (m : Message) → has_oscore m.options ≡ false → SealsNothing old now (sends (datagram to m ∷ []))
  silent_message to m plain = silent (datagram to m ∷ []) (one_plain (datagram to m) (unprotected m refl plain))

  pub refused_silently : (step : Step) (number : ℕ) → step ≡ refusing number → SealsNothing old now step
  refused_silently step number e = as_silent step _ e (silent_refusal number)

  -- an exchange begins by this message
  pub begins_silently : (to : Peer) (m : Message) (nonce : List ℕ) → has_oscore m.options ≡ false
      → SealsNothing old now (record { out = datagram to m ∷ []; notes = record quiet { drawn = Some nonce } })
  begins_silently to m nonce plain = record { out = one_plain (datagram to m) (unprotected m refl plain); seals = refl; opens = refl; answers = λ reply e. cc }

  tick_out : (base earlier all : List Open) → ((m : Open) → Contains all m → Contains old.endpoint.sending m)
      → All (λ it. NeedsNoSeal old now it) (filter_map datagram_of (dues old.endpoint.pace now base earlier all))
  tick_out base earlier [] within = none_plain
  tick_out base earlier (m ∷ all) within =
      by (due_of old.endpoint.pace now base earlier m m.sent) (tick_out base (earlier ++ m ∷ []) all (λ x has. within x (Contains-append_right (m ∷ []) all x has)))
    where
      rest : List Datagram
      rest = filter_map datagram_of (dues old.endpoint.pace now base (earlier ++ m ∷ []) all)

      by : (due : Due) → All (λ it. NeedsNoSeal old now it) rest
          → All (λ it. NeedsNoSeal old now it) (filter_map datagram_of ((m, due) ∷ dues old.endpoint.pace now base (earlier ++ m ∷ []) all))
      by Keep up = up
      by Send up = All-cons (λ it. NeedsNoSeal old now it) (record { to = m.to; bytes = m.bytes }) rest (open_before m (within m (All-head (Contains (m ∷ all)) m all (All-contains_itself (m ∷ all)))) refl) up
      by GiveUp up = up

  all_out : All (λ it. NeedsNoSeal old now it) (tick_sends old.endpoint.pace now old.endpoint.sending)
  all_out = tick_out old.endpoint.sending [] old.endpoint.sending (λ m has. has)

  all_going : (lost : Bool) (out : List Datagram) → GoesOut lost (tick_sends old.endpoint.pace now old.endpoint.sending) out → All (λ it. NeedsNoSeal old now it) out
  all_going false out is = subst (All (λ it. NeedsNoSeal old now it)) (sym is) all_out
  all_going true out is = subst (All (λ it. NeedsNoSeal old now it)) (sym is) none_plain

  pub ticks_silently : (lost : Bool) (out : List Datagram) → GoesOut lost (tick_sends old.endpoint.pace now old.endpoint.sending) out
      → SealsNothing old now (record { out = out; notes = quiet_or_lost lost })
  ticks_silently lost out goes = record { out = all_going lost out goes; seals = refl; opens = refl; answers = λ reply e. cc }

  pub times_out_silently : (lost : Bool) (out : List Datagram) → GoesOut lost (tick_sends old.endpoint.pace now old.endpoint.sending) out
      → SealsNothing old now (record { out = out; notes = record quiet { result = Some result.TimedOut; lost = lost } })
  times_out_silently lost out goes = silent_end out result.TimedOut lost tt (all_going lost out goes)

  again_silent : (from : Peer) (id : ℕ) (reply : Option Bytes) → noted_reply old.endpoint.seen now from id ≡ reply → SealsNothing old now (sends (again from reply))
  again_silent from id None e = silent [] none_plain
  again_silent from id (Some bytes) e = silent ((record { to = from; bytes = bytes }) ∷ []) (one_plain (record { to = from; bytes = bytes }) (noted_before id e))

  settled_silent : (ends : Bool) (endpoint : EndpointState) (step : Step) (new : State) → Settles ends old endpoint step new → SealsNothing old now step
  settled_silent false endpoint step new it = as_silent step _ it.0 (silent [] none_plain)
  settled_silent true endpoint step new it = as_silent step _ it.0 (silent_end [] (result.Unverified (record { 0 = 0 })) false tt none_plain)

  acknowledged_out : (from : Peer) (id : ℕ) (confirms : Bool) → All (λ it. NeedsNoSeal old now it) (sent_to from (if confirms then Some (empty_acknowledgement id) else None))
  acknowledged_out from id true = one_plain (datagram from (empty_acknowledgement id)) (unprotected (empty_acknowledgement id) refl refl)
  acknowledged_out from id false = none_plain

-- ---- requests

module _ (is_sealing : Sealings) (old : State) (now : Moment) where
  as_sent : (came : Option (List ℕ)) (step it : Step) → step ≡ it → AreTold is_sealing old now came it → AreTold is_sealing old now came step
  as_sent came step it e told = subst (AreTold is_sealing old now came) (sym e) told

  -- a step that seals nothing
  told_of : (came : Option (List ℕ)) (step : Step) → SealsNothing old now step → AreTold is_sealing old now came step
  told_of came step it = record {
    out = λ k d i. needs_none (it.out k d i);
    seals = λ note e. absurd (cc (it.seals, e));
    opens = λ note e. absurd (cc (it.opens, e));
    answers = λ reply e. absurd (it.answers reply e);
  }

  told_refusal : (step : Step) (number : ℕ) → step ≡ refusing number → AreTold is_sealing old now None step
  told_refusal step number e = told_of None step (as_silent old now step _ e (silent_refusal old now number))

  -- a step that seals a request
  told_seal : (to : Peer) (text : List ℕ) (name : ContextName) (number : ℕ) (m p : Message) → IsRequestOf is_sealing text name number m p
      → AreTold is_sealing old now None (record { out = datagram to p ∷ []; notes = record quiet { seals = Some (request_note name number text) } })
  told_seal to text name number m p it =
      let note = request_note name number text in
      let notes : StepNotes = record quiet { seals = Some note } in
      let seal : IsSealOf is_sealing note (datagram to p) = record { message = p; bytes = refl; sealed = it.sealed; payload = ap (λ (x : Message). x.payload) it.whole; is_sealed = it.is_sealed } in
      record {
        out = All-cons (λ sent. IsToldOf is_sealing old now notes sent) (datagram to p) [] (sealed_now note refl seal) (All-nil (λ sent. IsToldOf is_sealing old now notes sent));
        seals = λ other e. (datagram to p, refl, subst (λ n. IsSealOf is_sealing n (datagram to p)) (same_Some note other e) seal);
        opens = λ other e. absurd (cc);
        answers = λ reply e. absurd (cc);
      }

  pub ask_told : (tag : Tags) (request : Request) (draw : Draw) (step : Step) (new : State)
      → Asks is_sealing tag old (record { at = now; draw = draw; request = request }) step new → AreTold is_sealing old now None step
  ask_told tag request draw step new (hindered number why refused) = told_refusal step number refused.told
  ask_told tag request draw step new (asks context protected free sealed spelled told kept) =
      as_sent None step _ told (told_seal old.next_hop (plain_bytes (plain_of old draw request)) context.name context.next (plain_of old draw request) protected sealed)

  -- ---- a datagram

  module _ (came : List ℕ) (from : Peer) where
    -- what an outcome's notes tell of what opened
    record Tells (o : AnswerEffect) : Type 0 where
      pub seals : (notes_of o).seals ≡ None
      pub opens : (note : Note) → (notes_of o).opens ≡ Some note → (bytes : List ℕ) × (Some came ≡ Some bytes) × IsOpenOf is_sealing note bytes
      pub answers : (reply : Reply) → (notes_of o).result ≡ Some (Answer reply) → (note : Note) × ((notes_of o).opens ≡ Some note) × IsReplyIn note.plaintext reply

    stay_tells : Tells (outcome.Stays None)
    stay_tells = record { seals = refl; opens = λ note e. absurd (cc); answers = λ reply e. absurd (cc) }

    end_tells : (ending : ClientResult) → IsEnding ending → Tells (outcome.Ends ending)
    end_tells ending ends = record {
      seals = refl;
      opens = λ note e. absurd (cc);
      answers = λ reply e. absurd (subst IsEnding (same_Some ending (Answer reply) e) ends);
    }

    finish_tells : (it : Result ClientContextState FinishError) → Tells (ended_by it)
    finish_tells (Ok made) = record { seals = refl; opens = λ note e. absurd (cc); answers = λ reply e. absurd (cc) }
    finish_tells (Err Fields) = end_tells (result.Refused 30) tt
    finish_tells (Err EqualIds) = end_tells (result.Refused 20) tt
    finish_tells (Err (Memory back)) = stay_tells

    exchange_tells : (begun : Begun) (message : Message) (o : AnswerEffect) → ExchangeComes old.desk begun message o → Tells o
    exchange_tells begun message o (comes.protected plain is) = subst Tells (sym is) stay_tells
    exchange_tells begun message o (comes.ExchangeComes.other plain a b is) = subst Tells (sym is) stay_tells
    exchange_tells begun message o (comes.ExchangeComes.failed plain error is) = subst Tells (sym is) (end_tells (result.Unverified (code_of message)) tt)
    exchange_tells begun message o (comes.finished plain a b finish) = subst Tells (sym finish.is) (finish_tells finish.came)

    ask_tells : (context : ClientContextState) (ask : OpenAsk) (message : Message) (o : AnswerEffect) → Spells came message → AskComes is_sealing context ask message o → Tells o
    ask_tells context ask message o spelled (comes.AskComes.failed plain error is) = subst Tells (sym is) (end_tells (result.Unverified (code_of message)) tt)
    ask_tells context ask message o spelled (comes.AskComes.other plain error is) = subst Tells (sym is) stay_tells
    ask_tells context ask message o spelled (comes.malformed plain none is) = subst Tells (sym is) stay_tells
    ask_tells context ask message o spelled (comes.not_genuine response plain says none is) = subst Tells (sym is) stay_tells
    ask_tells context ask message o spelled (comes.no_response response text plain says sealed none is) =
        let note = response_note context.name ask.number response.own text in
        let opened : IsOpenOf is_sealing note came = record { message = message; spelled = spelled; sealed = response.sealed; payload = says.payload; is_sealed = sealed } in
        subst Tells (sym is) (record {
          seals = refl;
          opens = λ other e. (came, refl, subst (λ n. IsOpenOf is_sealing n came) (same_Some note other e) opened);
          answers = λ reply e. absurd (cc);
        })
    ask_tells context ask message o spelled (comes.answered response text reply plain says sealed reads is) =
        let note = response_note context.name ask.number response.own text in
        let opened : IsOpenOf is_sealing note came = record { message = message; spelled = spelled; sealed = response.sealed; payload = says.payload; is_sealed = sealed } in
        subst Tells (sym is) (record {
          seals = refl;
          opens = λ other e. (came, refl, subst (λ n. IsOpenOf is_sealing n came) (same_Some note other e) opened);
          answers = λ other e. (note, refl, let same : reply ≡ other = cc in subst (IsReplyIn text) same reads);
        })

    comes_tells : (context : Option ClientContextState) (what : Awaited) (message : Message) (o : AnswerEffect) → Spells came message → Comes is_sealing old.desk context what message o → Tells o
    comes_tells context (Exchange begun) message o spelled it = exchange_tells begun message o it
    comes_tells (Some context) (Ask ask) message o spelled it = ask_tells context ask message o spelled it
    comes_tells None (Ask ask) message o spelled it = absurd it

    counts_told : (draw : Draw) (message : Message) (step : Step) (new : State) → Spells came message
        → Counts is_sealing old (record { at = now; from = from; draw = draw; what = message }) step new → AreTold is_sealing old now (Some came) step
    counts_told draw message step new spelled it =
        let tells = comes_tells old.context it.waiting.what message it.outcome spelled it.comes in
        let out = acknowledged_out old now from message.id (is_confirmable message.kind) in
        as_sent (Some came) step _ it.told (record {
          out = λ k d i. needs_none (out k d i);
          seals = λ note e. absurd (cc (tells.seals, e));
          opens = tells.opens;
          answers = tells.answers;
        })

    quietly : (step it : Step) → step ≡ it → SealsNothing old now it → AreTold is_sealing old now (Some came) step
    quietly step it e told = told_of (Some came) step (as_silent old now step it e told)

    rejected_silently : (kind : Kind) (id : ℕ) → SealsNothing old now (sends (rejection from kind id))
    rejected_silently Confirmable id = silent_message old now from (reset id) refl
    rejected_silently NonConfirmable id = silent old now [] (none_plain old now)
    rejected_silently Acknowledgement id = silent old now [] (none_plain old now)
    rejected_silently Reset id = silent old now [] (none_plain old now)

    alone_silently : (out : List Datagram) → IsAlone old.endpoint.seen now from out → SealsNothing old now (sends out)
    alone_silently out (ignores is) = rw is (silent old now [] (none_plain old now))
    alone_silently out (rejects id spelled is) = rw is (silent_message old now from (reset id) refl)
    alone_silently out (repeats id is) = rw is (again_silent old now from id (noted_reply old.endpoint.seen now from id) refl)

    new_told : (draw : Draw) (message : Message) (it : ResponseCase) (step : Step) (new : State) → Spells came message
        → AnswersNew is_sealing old (record { at = now; from = from; draw = draw; what = message }) it step new → AreTold is_sealing old now (Some came) step
    new_told draw message case.Refused step new spelled a = quietly step _ a.0 (silent_message old now from (refusal message) refl)
    new_told draw message case.Unused step new spelled a = quietly step _ a.0 (rejected_silently message.kind message.id)
    new_told draw message case.Counted step new spelled a = counts_told draw message step new spelled a

    -- what the message layer answers is one of its three answers; a message is the one that came
    pub datagram_told : (draw : Draw) (it : Heard) (step : Step) (new : State) → AnswersAlone old.endpoint.seen now from it
        → ((message : Message) → it ≡ heard.Message message → Spells came message)
        → Answers is_sealing old (record { at = now; from = from; draw = draw; what = came }) it step new → AreTold is_sealing old now (Some came) step
    datagram_told draw (heard.Alone out) step new alone spelled a = quietly step _ a.0 (alone_silently out alone)
    datagram_told draw (heard.Empty kind id) step new alone spelled a =
        told_of (Some came) step (settled_silent old now (is_ended old.next_hop from kind id old.waiting) _ step new a)
    datagram_told draw (heard.Message message) step new alone spelled a =
        new_told draw message (case_of old.next_hop from old.waiting message) step new (spelled message refl) a
