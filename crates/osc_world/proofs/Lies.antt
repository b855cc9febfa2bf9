-- What a holder that keeps no rule seals: how long it is, what its notes tell, and which kind of step it is.
use Rattle.std.proofs.Common.{◌≡◌, ℕ, ◌+◌, ◌≤◌, true, false, List, [], ◌∷◌, length, Option, Some, None, refl, ap, subst, ◌∙◌, sym, arith, replicate}
use Rattle.std.specs.List.{All}
use Rattle.std.proofs.lemmas.List.{length-replicate}
use Rattle.std.proofs.lemmas.List.Elements.{All-nil, All-cons}
use Rattle.std.proofs.lemmas.Option.{same_Some}
use Rattle.osc_model.specs.{quiet}
use Rattle.osc_model.specs.StepNotes.{StepNotes}
use Rattle.osc_model.specs.declared.context.ContextName.{ContextName}
use Rattle.osc_model.specs.declared.node.Draw.{Draw}
use Rattle.osc_model.specs.declared.node.Moment.{Moment}
use Rattle.osc_model.specs.declared.node.Peer.{Peer}
use Rattle.osc_model.specs.declared.step.ClientResult.TheVariants.{Refused}
use Rattle.osc_model.specs.declared.step.Datagram.{Datagram}
use Rattle.osc_model.specs.declared.step.Note.{Note}
use Rattle.osc_model.specs.declared.step.Step.{Step}
use Rattle.osc_ccm.specs.{Sealings, Tags}
use Rattle.std.specs.Prelude.{◌<◌, ◌↔◌, Err, Result}
use Rattle.std.proofs.Common.{⊎_elim}
use Rattle.osc_ccm.specs.{IsInRange, IsTooLong}
use Rattle.osc_ccm.specs.Limits.{most_aad, most_text}
use Rattle.osc_ccm.specs.declared.error.SealError.{SealError}
use Rattle.osc_ccm.specs.declared.error.SealError.TheVariants.{TooLong, OutTooSmall}
use Rattle.osc_coap.specs.{spelling, payload_length, payload_of, with_payload}
use Rattle.osc_coap.specs.Message.{Message}
use Rattle.osc_context.specs.{greatest_number}
use Rattle.osc_options.specs.{protected}
use Rattle.osc_protect.specs.{IsRequestOf}
use Rattle.osc_message.specs.{AreSendable, FitsDatagram, datagram}
use Rattle.osc_run.specs.{ClientIdle, ClientStep, IsSealOf, Lied, request_note}
use Rattle.osc_client.specs.{AreTold, IsToldOf, core, refusing, sealed_now}
use Rattle.osc_client.specs.State.{State}
use Rattle.osc_world.specs.Adversary.{Lie, Lies, lies, outside_of}

-- ---- how long it is: only the length of the payload counts

-- by how much a payload makes a message longer
abbrev pub Grows : Type 0
Grows = (m : Message) (bytes : List ℕ) → m.payload ≡ None → length (spelling (with_payload m bytes)) ≡ length (spelling m) + payload_length (payload_of bytes)

payload_same : (a b : List ℕ) → length a ≡ length b → payload_length (payload_of a) ≡ payload_length (payload_of b)
payload_same [] [] e = refl
payload_same [] (b ∷ bs) e = absurd (omega (arith, e))
payload_same (a ∷ more) [] e = absurd (omega (arith, e))
payload_same (a ∷ more) (b ∷ bs) e = ap (λ n. 1 + n) e

payload_least : (a : List ℕ) → length a ≤ payload_length (payload_of a)
payload_least [] = omega arith
payload_least (a ∷ more) = omega arith

-- sealed bytes make a message as long as any others of their number
pub sealed_length_is : Grows → (m : Message) (code : ℕ) (value sealed : List ℕ) (n : ℕ) → length sealed ≡ n
    → length (spelling (protected m code value sealed)) ≡ length (spelling (protected m code value (replicate n 0)))
sealed_length_is grows m code value sealed n e =
    grows (protected m code value []) sealed refl
    ∙ ap (λ k. length (spelling (protected m code value [])) + k) (payload_same sealed (replicate n 0) (e ∙ sym (length-replicate {A = ℕ} n 0)))
    ∙ sym (grows (protected m code value []) (replicate n 0) refl)

pub least_sealed : Grows → (m : Message) (code : ℕ) (value : List ℕ) (n : ℕ) → n ≤ length (spelling (protected m code value (replicate n 0)))
least_sealed grows m code value n =
    let zeros = length-replicate {A = ℕ} n 0 in
    let least = payload_least (replicate n 0) in
    let whole = grows (protected m code value []) (replicate n 0) refl in
    omega (arith, zeros, least, whole)

-- the cipher refuses a text only where it is longer than a datagram may be
abbrev refusal_of : SealError → Result ℕ SealError
refusal_of error = Err error

pub no_seal : (error : SealError) (text aad tag out : ℕ) → ((refusal_of error ≡ Err SealError.TooLong) ↔ IsTooLong text aad)
    → ((refusal_of error ≡ Err SealError.OutTooSmall) ↔ (IsInRange text aad × (out < text + tag))) → aad ≤ 32 → out ≡ 1152 → text + tag ≤ 1152 → ⊥
no_seal TooLong text aad tag out long small low size fits = ⊎_elim (λ (h : most_text < text). omega arith) (λ (h : most_aad < aad). omega arith) (long.0 refl)
no_seal OutTooSmall text aad tag out long small low size fits = let room : out < text + tag = (small.0 refl).1 in omega arith

-- ---- what a refusal sends and tells

none_fit : (out : List Datagram) → out ≡ [] → AreSendable out
none_fit out none = subst AreSendable (sym none) (All-nil (λ sent. FitsDatagram sent.bytes))

pub refusal_fits : (step : Step) (number : ℕ) → step ≡ refusing number → AreSendable step.out
refusal_fits step number refused = none_fit step.out (ap (λ (s : Step). s.out) refused)

module _ (is_sealing : Sealings) (old : State) (now : Moment) where
  as_told : (step it : Step) → step ≡ it → AreTold is_sealing old now None it → AreTold is_sealing old now None step
  as_told step it e told = subst (AreTold is_sealing old now None) (sym e) told

  refusal_told : (step : Step) (number : ℕ) → step ≡ refusing number → AreTold is_sealing old now None step
  refusal_told step number e = as_told step (refusing number) e (record {
    out = All-nil (λ sent. IsToldOf is_sealing old now (record quiet { result = Some (Refused number) }) sent);
    seals = λ note seal. absurd (cc);
    opens = λ note opened. absurd (cc);
    answers = λ reply answer. absurd (cc);
  })

  seal_told : (to : Peer) (text : List ℕ) (name : ContextName) (number : ℕ) (m p : Message) → IsRequestOf is_sealing text name number m p
      → AreTold is_sealing old now None (record { out = datagram to p ∷ []; notes = record quiet { seals = Some (request_note name number text) } })
  seal_told to text name number m p it =
      let note = request_note name number text in
      let notes : StepNotes = record quiet { seals = Some note } in
      let seal : IsSealOf is_sealing note (datagram to p) = record { message = p; bytes = refl; sealed = it.sealed; payload = ap (λ (x : Message). x.payload) it.whole; is_sealed = it.is_sealed } in
      record {
        out = All-cons (λ sent. IsToldOf is_sealing old now notes sent) (datagram to p) [] (sealed_now note refl seal) (All-nil (λ sent. IsToldOf is_sealing old now notes sent));
        seals = λ other e. (datagram to p, refl, subst (λ n. IsSealOf is_sealing n (datagram to p)) (same_Some note other e) seal);
        opens = λ other e. absurd (cc);
        answers = λ reply e. absurd (cc);
      }

  pub lie_told : (tag : Tags) (lie : Lie) (draw : Draw) (step : Step) → Lies is_sealing tag old lie draw step → AreTold is_sealing old now None step
  lie_told tag lie draw step (Lies.no_context none told) = refusal_told step 22 told
  lie_told tag lie draw step (Lies.too_long context held long told) = refusal_told step 14 told
  lie_told tag lie draw step (lies context protected held fits sealed spelled told) =
      as_told step _ told (seal_told old.next_hop lie.text context.name lie.number (outside_of old.origin draw) protected sealed)

-- ---- which kind of step it is

pub refusal_kind : (old : State) (number : ℕ) → ClientStep true (core old) (record quiet { result = Some (Refused number) }) (core old)
refusal_kind old number = ClientIdle (record { opened = None; refusal = Some number; lost = false; noted = refl; is = refl })

pub lied : (is_sealing : Sealings) (tag : Tags) (old : State) (lie : Lie) (draw : Draw) (step : Step) → lie.number ≤ greatest_number
    → Lies is_sealing tag old lie draw step → ClientStep true (core old) step.notes (core old)
lied is_sealing tag old lie draw step lawful (Lies.no_context none told) = rw told (refusal_kind old 22)
lied is_sealing tag old lie draw step lawful (Lies.too_long context held long told) = rw told (refusal_kind old 14)
lied is_sealing tag old lie draw step lawful (lies context protected held fits sealed spelled told) =
    Lied refl (record {
      context = context;
      number = lie.number;
      lawful = lawful;
      plaintext = lie.text;
      noted = ap (λ (s : Step). s.notes) told;
      held = held;
      is = refl;
    })
