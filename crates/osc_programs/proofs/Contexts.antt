-- A client that learnt that it has a context has one that nothing was sealed under.
use Rattle.std.proofs.Common.{◌≡◌, ◌≢◌, ◌∙◌, ◌⊎◌, ⊎_elim, ◌++◌, ℕ, ap, codes, refl, subst, sym, false, List, [], append-nil, append_assoc, Option, Some, None}
use Rattle.std.specs.Io.KnownBytes.{Appends}
use Rattle.std.specs.Prelude.{option_map}
use Rattle.std.specs.Option.{IsSome}
use Rattle.osc_model.specs.StepNotes.{StepNotes}
use Rattle.osc_model.specs.declared.node.Draw.{Draw}
use Rattle.osc_model.specs.declared.node.Moment.{Moment}
use Rattle.osc_model.specs.declared.step.ClientResult.{ClientResult}
use Rattle.osc_model.specs.declared.step.ClientResult.TheVariants as result
use Rattle.osc_model.specs.declared.step.Step.{Step}
use Rattle.osc_authz.specs.{ClientContextState}
use Rattle.osc_run.specs.{Cause, ClientState, IsEnding}
use Rattle.osc_run.specs.ClientKinds as kinds
use Rattle.osc_client.specs.{Exchanges as Begins, IsStep, core}
use Rattle.osc_client.specs.State.{State as Client}
use Rattle.osc_simulation.specs.{is_sealing}
use Rattle.osc_turn.specs.Running.{Running}
use Rattle.osc_words.specs.declared.times.Patience.{Patience}
use Rattle.osc_programs.specs.{Passed, Upshot, Waits}
use Rattle.osc_programs.specs.Conversation.{end_of}
use Rattle.osc_programs.specs.Context.{CannotAgree, CannotTurn, EndsContext, Exchanges, HasUnused}
use Rattle.osc_programs.specs.declared.asking.AskEnd.{AskEnd}
use Rattle.osc_programs.specs.declared.asking.AskEnd.TheVariants.{Told, Open}
use Rattle.osc_programs.specs.declared.ended.Ended.{Ended}
use Rattle.osc_programs.specs.declared.ended.Ended.TheVariants.{Done, BadCommandLine, BadLine, TooLong, BadSettings, OutOfMemory, Failed, PortFailed, NotDone, Unopened, NotKept}

no_refusal : (refusal : Option ℕ) → option_map result.Refused refusal ≡ Some result.Made → ⊥
no_refusal None e = absurd cc
no_refusal (Some number) e = absurd cc

no_ending : (told : ClientResult) → IsEnding told → Some told ≡ Some result.Made → ⊥
no_ending told ending e = let same : told ≡ result.Made = cc in subst IsEnding same ending

-- a client has a context, which takes number 0 next
abbrev Unused : Option ClientContextState → Type 0
Unused held = (context : ClientContextState) × (held ≡ Some context) × (context.next ≡ 0)

-- by one step
made_by_kind : (old new : ClientState) (notes : StepNotes) → kinds.ClientStep false old notes new → notes.result ≡ Some result.Made → Unused new.context
made_by_kind old new notes (kinds.ClientStep.ClientIdle it) told = absurd (no_refusal it.refusal (sym (ap (λ (n : StepNotes). n.result) it.noted) ∙ told))
made_by_kind old new notes (kinds.ClientStep.Started honest it) told = let none = sym (ap (λ (n : StepNotes). n.result) it.noted) ∙ told in absurd cc
made_by_kind old new notes (kinds.ClientStep.Made honest it) told = (_, ap (λ (c : ClientState). c.context) it.is, refl)
made_by_kind old new notes (kinds.ClientStep.Asked honest it) told = let none = sym (ap (λ (n : StepNotes). n.result) it.noted) ∙ told in absurd cc
made_by_kind old new notes (kinds.ClientStep.Answered honest it) told = let none = sym (ap (λ (n : StepNotes). n.result) it.noted) ∙ told in absurd cc
made_by_kind old new notes (kinds.ClientStep.Ended honest it) told = absurd (no_ending it.result it.ending (sym (ap (λ (n : StepNotes). n.result) it.noted) ∙ told))
made_by_kind old new notes (kinds.ClientStep.Lied lie it) told = absurd cc
made_by_kind old new notes (kinds.ClientStep.ClientRestarted honest it) told = let none = sym (ap (λ (n : StepNotes). n.result) it.noted) ∙ told in absurd cc

made_by_step : (old new : Client) (cause : Cause) (step : Step) → IsStep is_sealing old cause step new → step.notes.result ≡ Some result.Made → Unused new.context
made_by_step old new cause step is told = made_by_kind (core old) (core new) step.notes is.kind told

-- a post makes none at once
posts_none : (old : Client) (now : Moment) (draw : Draw) (step : Step) (new : Client) → Begins old now draw step new → step.notes.result ≡ Some result.Made → ⊥
posts_none old now draw step new (Begins.busy waits refused) told = let none = sym (ap (λ (s : Step). s.notes.result) refused.told) ∙ told in absurd cc
posts_none old now draw step new (Begins.too_long idle long refused) told = let none = sym (ap (λ (s : Step). s.notes.result) refused.told) ∙ told in absurd cc
posts_none old now draw step new (Begins.begins idle fits spells step_is kept) told = let none = sym (ap (λ (s : Step). s.notes.result) step_is) ∙ told in absurd cc

abbrev last_told : AskEnd → Option ClientResult
last_told (Told learnt) = Some learnt
last_told Open = None

same_held : (held : Option ClientContextState) (a b : ClientContextState) → held ≡ Some a → held ≡ Some b → a ≡ b
same_held held a b e f = cc

-- by turns, at first or later
waited : (until left : ℕ) (learnt : Option ClientResult) (old : Running Client) (upshot : Upshot) (rest : ℕ) (new : Running Client) → Waits until left learnt old upshot rest new
    → (learnt ≡ Some result.Made → Unused old.node.context) → upshot.outcome ≡ Told result.Made → Unused new.node.context
waited until left learnt old upshot rest new (Waits.told n client told) before e = before (ap last_told e)
waited until left learnt old upshot rest new (Waits.still n client over) before e = absurd cc
waited until left learnt old upshot rest new (Waits.turns n m first next last received step more early turn waits) before e =
    waited until n step.notes.result next more m last waits (made_by_step first.node next.node _ step turn.steps) e

pub exchange_made : (patience : Patience) (old : Running Client) (upshot : Upshot) (new : Running Client) → Exchanges patience old upshot new → upshot.outcome ≡ Told result.Made
    → (context : ClientContextState) × HasUnused new.node context
exchange_made patience old upshot new it e =
    let found = waited (end_of patience it.begun) patience.turns it.step.notes.result it.begun it.waited it.left new it.waits
    (λ told. absurd (posts_none old.node it.posts.now it.posts.draw it.step it.begun.node it.posts.posts.exchanges told))
    (sym (ap (λ (u : Upshot). u.outcome) it.is) ∙ e) in
    (found.0, record { held = found.1; unused = found.2 })

-- the context of the client is that one
pub one_unused : (client : Client) (context other : ClientContextState) → HasUnused client other → client.context ≡ Some context → HasUnused client context
one_unused client context other it held =
    let same : other ≡ context = same_held client.context other context it.held held in
    record { held = held; unused = ap (λ (c : ClientContextState). c.next) (sym same) ∙ it.unused }

-- the outcome, under another name
pub exchanged_as : (patience : Patience) (old : Running Client) (passed : Passed) (outcome other : AskEnd) (new : Running Client) → outcome ≡ other
    → Exchanges patience old (record { passed = passed; outcome = outcome }) new → Exchanges patience old (record { passed = passed; outcome = other }) new
exchanged_as patience old passed outcome other new e it = subst (λ (o : AskEnd). Exchanges patience old (record { passed = passed; outcome = o }) new) e it

pub holds_context : (client : Client) (context : ClientContextState) → HasUnused client context → IsSome client.context
holds_context client context it = subst IsSome (sym it.held) refl

-- ---- how it ends

pub turn_agree : (ended : Ended) → CannotTurn ended → CannotAgree ended
turn_agree Done h = h
turn_agree BadCommandLine h = absurd h
turn_agree (BadLine n) h = absurd h
turn_agree TooLong h = absurd h
turn_agree BadSettings h = absurd h
turn_agree OutOfMemory h = tt
turn_agree Failed h = tt
turn_agree PortFailed h = tt
turn_agree NotDone h = tt
turn_agree (Unopened error) h = absurd h
turn_agree (NotKept error) h = absurd h

pub agree_no_end : (ended : Ended) → CannotAgree ended → ended ≢ Done
agree_no_end Done f e = f
agree_no_end BadCommandLine f e = absurd cc
agree_no_end (BadLine n) f e = absurd cc
agree_no_end TooLong f e = absurd cc
agree_no_end BadSettings f e = absurd cc
agree_no_end OutOfMemory f e = absurd cc
agree_no_end Failed f e = absurd cc
agree_no_end PortFailed f e = absurd cc
agree_no_end NotDone f e = absurd cc
agree_no_end (Unopened error) f e = absurd cc
agree_no_end (NotKept error) f e = absurd cc

pub agree_context : (ended : Ended) → CannotAgree ended → EndsContext ended
agree_context Done h = absurd h
agree_context BadCommandLine h = absurd h
agree_context (BadLine n) h = absurd h
agree_context TooLong h = absurd h
agree_context BadSettings h = tt
agree_context OutOfMemory h = tt
agree_context Failed h = tt
agree_context PortFailed h = tt
agree_context NotDone h = tt
agree_context (Unopened error) h = absurd h
agree_context (NotKept error) h = absurd h

-- what was written, or failed to be

pub written_context : (ended : Ended) → (ended ≡ Done) ⊎ (ended ≡ Failed) → EndsContext ended
written_context ended either = ⊎_elim (λ e. subst EndsContext (sym e) tt) (λ e. subst EndsContext (sym e) tt) either

pub written_nothing : (ended : Ended) → (ended ≡ Done) ⊎ (ended ≡ Failed) → ended ≢ Done → ended ≢ Failed → ⊥
written_nothing ended either done failed = ⊎_elim done failed either

pub written_not_bad : (ended : Ended) → (ended ≡ Done) ⊎ (ended ≡ Failed) → ended ≡ BadSettings → ⊥
written_not_bad ended either bad = ⊎_elim (λ e. absurd cc) (λ e. absurd cc) either

pub appends_nothing : (held : Option (List ℕ)) → Appends held held []
appends_nothing None = tt
appends_nothing (Some bytes) = sym (append-nil bytes)

-- ---- how it is written

pub number_pieces : (alg next : List ℕ) → codes "{\"aead_algorithm\": " ++ (alg ++ (codes ", \"sender_sequence_number\": " ++ (next ++ codes ", \"hkdf_algorithm\": -10")))
    ≡ codes "{\"aead_algorithm\": " ++ alg ++ codes ", \"sender_sequence_number\": " ++ next ++ codes ", \"hkdf_algorithm\": -10"
number_pieces alg next = simp append_assoc
