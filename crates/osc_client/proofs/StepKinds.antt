-- Which kind of step each is.
use Rattle.std.proofs.Common.{◌≡◌, ◌≤◌, ◌+◌, ap, ℕ, Bool, true, false, List, Some, None, Option, Ok, refl, subst}
use Rattle.osc_model.specs.{read_as, sends, quiet}
use Rattle.osc_model.specs.Arrival.{Arrival}
use Rattle.osc_model.specs.StepNotes.{StepNotes}
use Rattle.osc_model.specs.declared.code.Code.{Code}
use Rattle.osc_model.specs.declared.node.Draw.{Draw}
use Rattle.osc_model.specs.declared.node.Moment.{Moment}
use Rattle.osc_model.specs.declared.step.ClientResult.TheVariants as result
use Rattle.osc_model.specs.declared.step.ClientResult.TheVariants.{Refused}
use Rattle.osc_model.specs.declared.step.Datagram.{Datagram}
use Rattle.osc_model.specs.declared.step.Step.{Step}
use Rattle.osc_coap.specs.Message.{Message}
use Rattle.osc_message.specs.{EndpointState}
use Rattle.osc_message.specs.declared.heard.Heard.{Heard}
use Rattle.osc_message.specs.declared.heard.Heard.TheVariants as heard
use Rattle.osc_authz.specs.{ClientContextState, Finishes}
use Rattle.osc_authz.specs.Begun.{Begun}
use Rattle.osc_run.specs.{Asked, ClientStep, ClientIdle, Ended, IsMade, ClientState, Nothing, Exchange as OpenExchange, request_note}
use Rattle.osc_client.specs.Inner.Bounds.{HasContext}
use Rattle.osc_client.specs.{case_of, is_ended, is_reset, core, opened, outstanding, Answers, AnswersNew, Settles}
use Rattle.osc_context.specs.{greatest_number}
use Rattle.osc_ccm.specs.{Sealings}
use Rattle.osc_client.specs.State.{State}
use Rattle.osc_client.specs.declared.case.ResponseCase.{ResponseCase}
use Rattle.osc_client.specs.declared.case.ResponseCase.TheVariants.{Refused as RefusedCase, Unused, Counted}
use Rattle.osc_client.specs.declared.waiting.Awaited.TheVariants.{Ask}
use Rattle.osc_client.specs.declared.waiting.Waiting.{Waiting}
use Rattle.osc_client.proofs.Outcomes.{kind_after, something}
use Rattle.osc_client.proofs.Own.{and_right}

-- what is refused before it begins changes nothing
pub refusals : (lied : Bool) (state : ClientState) (number : ℕ) → ClientStep lied state (record quiet { result = Some (Refused number) }) state
refusals lied state number = ClientIdle (record { opened = None; refusal = Some number; lost = false; noted = refl; is = refl })

-- a request is asked
pub asked : (old : State) (context : ClientContextState) (plaintext : List ℕ) (notes : StepNotes) (new : State) (at : Moment) (draw : Draw) (message : Message)
    → (old.waiting ≡ None) × (old.context ≡ Some context) × (context.next ≤ greatest_number)
    → notes ≡ record quiet { seals = Some (request_note context.name context.next plaintext) }
    → new ≡ opened (record old { context = Some (record context { next = context.next + 1 }) }) at draw message (Ask (record { number = context.next }))
    → ClientStep false (core old) notes (core new)
asked old context plaintext notes new at draw message free noted is =
    Asked refl (record {
      context = context;
      lawful = free.2;
      plaintext = plaintext;
      noted = noted;
      held = free.1;
      before = ap (outstanding old.context) free.0;
      is = ap core is;
    })

-- what only sends is idle
quietly : (old new : State) (step : Step) (out : List Datagram) → step ≡ sends out → core new ≡ core old → ClientStep false (core old) step.notes (core new)
quietly old new step out told same = ClientIdle (record { opened = None; refusal = None; lost = false; noted = ap (λ (s : Step). s.notes) told; is = same })

-- what a Reset ends
settles : (ends : Bool) (old : State) (endpoint : EndpointState) (step : Step) (new : State)
    → (ends ≡ true → outstanding old.context old.waiting ≡ Nothing → ⊥) → Settles ends old endpoint step new → ClientStep false (core old) step.notes (core new)
settles false old endpoint step new something settled = quietly old new step _ settled.0 (ap core settled.1)
settles true old endpoint step new something settled =
    Ended refl (record {
      result = result.Unverified (record { 0 = 0 });
      ending = tt;
      lost = false;
      noted = ap (λ (s : Step). s.notes) settled.0;
      before = something refl;
      is = ap core settled.1;
    })

-- what the crates below know of an exchange that makes a context
abbrev pub Makes : Type 0
Makes =
    (begun : Begun) (came : Code) (payload : List ℕ) (made : ClientContextState) (before : ClientState) → before.outstanding ≡ OpenExchange begun
    → Finishes before.desk begun came payload (Ok made)
    → IsMade before (record quiet { result = Some result.Made }) (record before { context = Some made; outstanding = Nothing })

-- a step for a new message
new_kind : (is_sealing : Sealings) (old : State) (came : Arrival Message) (case : ResponseCase) (step : Step) (new : State) → HasContext old.context old.waiting → Makes
    → AnswersNew is_sealing old came case step new → ClientStep false (core old) step.notes (core new)
new_kind is_sealing old came RefusedCase step new has makes answers = quietly old new step _ answers.0 (ap core answers.1)
new_kind is_sealing old came Unused step new has makes answers = quietly old new step _ answers.0 (ap core answers.1)
new_kind is_sealing old came Counted step new has makes answers =
    let held : HasContext old.context (Some answers.waiting) = subst (HasContext old.context) answers.waits has in
    let kind = kind_after is_sealing old.desk came.what old.context answers.waiting answers.outcome answers.comes held.0 makes in
    let before : core old ≡ record { desk = old.desk; context = old.context; outstanding = outstanding old.context (Some answers.waiting) } =
    ap (λ (w : Option Waiting). record { desk = old.desk; context = old.context; outstanding = outstanding old.context w }) answers.waits in
    rw (before, answers.told, answers.kept) kind

-- a step of the table
pub kind_of : (is_sealing : Sealings) (old : State) (came : Arrival (List ℕ)) (it : Heard) (step : Step) (new : State) → HasContext old.context old.waiting → Makes
    → Answers is_sealing old came it step new → ClientStep false (core old) step.notes (core new)
kind_of is_sealing old came (heard.Alone out) step new has makes answers = quietly old new step _ answers.0 (ap core answers.1)
kind_of is_sealing old came (heard.Empty kind id) step new has makes answers =
    settles (is_ended old.next_hop came.from kind id old.waiting) old _ step new (open_one old.waiting has) answers
  where
    open_one : (waiting : Option Waiting) → HasContext old.context waiting → is_ended old.next_hop came.from kind id waiting ≡ true
        → outstanding old.context waiting ≡ Nothing → ⊥
    open_one None has ends e = let wrong : false ≡ true = and_right (is_reset kind) false ends in cc
    open_one (Some waiting) has ends e = something old.context waiting.what has.0 e
kind_of is_sealing old came (heard.Message message) step new has makes answers =
    new_kind is_sealing old (read_as came message) (case_of old.next_hop came.from old.waiting message) step new has makes answers
