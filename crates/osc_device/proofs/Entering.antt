-- A reply that the device learns is that of an entry of the history.
use Rattle.std.proofs.Common.{◌≡◌, ◌∙◌, ap, sym, refl, subst, inl, inr, ℕ, false, List, [], ◌∷◌, ◌++◌, Option, Some, None}
use Rattle.std.specs.Prelude.{option_to_list, option_map}
use Rattle.std.proofs.lemmas.List.{append_assoc}
use Rattle.osc_authz.specs.{In}
use Rattle.osc_client.specs.{core as client_core}
use Rattle.osc_client.specs.State.{State as Client}
use Rattle.osc_model.specs.StepNotes.{StepNotes}
use Rattle.osc_model.specs.declared.node.Draw.{Draw}
use Rattle.osc_model.specs.declared.node.Moment.{Moment}
use Rattle.osc_model.specs.declared.reply.Reply.{Reply}
use Rattle.osc_model.specs.declared.step.ClientResult.{ClientResult}
use Rattle.osc_model.specs.declared.step.ClientResult.TheVariants as result
use Rattle.osc_model.specs.declared.step.Note.{Note}
use Rattle.osc_model.specs.declared.step.Step.{Step}
use Rattle.osc_ccm.specs.{Sealings}
use Rattle.osc_run.specs.{ClientStep, IsEnding, response_note, Acceptance, acceptance_in, acceptances, Noted, by_client, IsReplyOfRequest, IsReached, ClientState, Minted, WorldState}
use Rattle.osc_run.specs.ClientKinds as kinds
use Rattle.osc_run.specs.declared.noted.Actor.TheVariants.{Client as ByClient}
use Rattle.osc_run.specs.OneHistory.{OneHistory}
use Rattle.osc_run.specs.Premise.{Premise}
use Rattle.osc_device.specs.{Carries, ComesBack, IsIn, IsTold, noted, of_own, of_server}
use Rattle.osc_device.specs.State.{State}
use Rattle.osc_device.specs.declared.round.Round.{Round}
use Rattle.osc_device.proofs.Going.{device, of_round}

in_back : {A : Type 0} (xs : List A) (x : A) → In x (xs ++ x ∷ [])
in_back [] x = inl refl
in_back (y ∷ xs) x = inr (in_back xs x)

-- an answer is no refusal
no_refusal : (refusal : Option ℕ) (reply : Reply) → option_map result.Refused refusal ≡ Some (result.Answer reply) → ⊥
no_refusal None reply e = absurd cc
no_refusal (Some number) reply e = absurd cc

no_ending : (told : ClientResult) (reply : Reply) → IsEnding told → Some told ≡ Some (result.Answer reply) → ⊥
no_ending told reply ending e = let same : told ≡ result.Answer reply = cc in subst IsEnding same ending

-- what opened, where a client's step is told an answer
opened : (old new : ClientState) (notes : StepNotes) (reply : Reply) → ClientStep false old notes new → notes.result ≡ Some (result.Answer reply)
    → (note : Note) × (notes.opens ≡ Some note)
opened old new notes reply (kinds.ClientStep.ClientIdle it) told =
    absurd (no_refusal it.refusal reply (sym (ap (λ (n : StepNotes). n.result) it.noted) ∙ told))
opened old new notes reply (kinds.ClientStep.Started honest it) told = let none = sym (ap (λ (n : StepNotes). n.result) it.noted) ∙ told in absurd cc
opened old new notes reply (kinds.ClientStep.Made honest it) told = let none = sym (ap (λ (n : StepNotes). n.result) it.noted) ∙ told in absurd cc
opened old new notes reply (kinds.ClientStep.Asked honest it) told = let none = sym (ap (λ (n : StepNotes). n.result) it.noted) ∙ told in absurd cc
opened old new notes reply (kinds.ClientStep.Answered honest it) told =
    (response_note it.ask.context it.ask.number it.own it.text, ap (λ (n : StepNotes). n.opens) it.noted)
opened old new notes reply (kinds.ClientStep.Ended honest it) told =
    absurd (no_ending it.result reply it.ending (sym (ap (λ (n : StepNotes). n.result) it.noted) ∙ told))
opened old new notes reply (kinds.ClientStep.Lied lie it) told = absurd cc
opened old new notes reply (kinds.ClientStep.ClientRestarted honest it) told = let none = sym (ap (λ (n : StepNotes). n.result) it.noted) ∙ told in absurd cc

-- the acceptance of a step that is told an answer
abbrev acceptance_of : ℕ → Reply → Note → Acceptance
acceptance_of number reply note = record { by = number; context = note.context; number = note.number; reply = reply }

accepts : (number : ℕ) (earlier : List Noted) (notes : StepNotes) (reply : Reply) (note : Note)
    → notes.result ≡ Some (result.Answer reply) → notes.opens ≡ Some note
    → In (acceptance_of number reply note) (acceptances (by_client number false notes ∷ earlier))
accepts number earlier notes reply note told opens =
    let a = acceptance_of number reply note in
    let one : acceptance_in (ByClient number) notes.result notes.opens ≡ Some a =
    ap (λ (r : Option ClientResult). acceptance_in (ByClient number) r notes.opens) told ∙ ap (λ (o : Option Note). acceptance_in (ByClient number) (Some (result.Answer reply)) o) opens in
    subst (λ (o : Option Acceptance). In a (acceptances earlier ++ option_to_list o)) (sym one) (in_back (acceptances earlier) a)

-- the notes of a round, grouped the other way
regrouped : (number : ℕ) (round : Round) (earlier : List Noted)
    → of_own number round.learnt ++ (of_server round.served ++ (of_own number (Some round.begun) ++ earlier)) ≡ noted number round ++ earlier
regrouped number round earlier =
    let a = of_own number round.learnt in
    let b = of_server round.served in
    let c = of_own number (Some round.begun) in
    sym (append_assoc a b (c ++ earlier)) ∙ sym (append_assoc (a ++ b) c earlier)

one_step : (o : Option Step) (a b : Step) → o ≡ Some a → o ≡ Some b → a ≡ b
one_step o a b e f = cc

module _ (is_sealing : Sealings) (history : (w : WorldState) → IsReached w → Premise w.minted w.notes → OneHistory w) where
  learnt : (number : ℕ) (rest : List Noted) (reply : Reply) (old new : Client) (now : Moment) (draw : Draw) (served told : Option Step) (step : Step)
      → told ≡ Some step → step.notes.result ≡ Some (result.Answer reply)
      → ComesBack is_sealing old now served told new
      → (a : Acceptance) × (a.by ≡ number) × (a.reply ≡ reply) × In a (acceptances (of_own number told ++ rest))
  learnt number rest reply old new now draw served told step some answer (ComesBack.lost nothing lost) = let none = sym lost.0 ∙ some in absurd cc
  learnt number rest reply old new now draw served told step some answer (ComesBack.heard its one made there only is steps) =
      let same : made ≡ step = one_step told made step is some in
      let result_is = ap (λ (s : Step). s.notes.result) same ∙ answer in
      let note = opened (client_core old) (client_core new) made.notes reply (steps draw).kind result_is in (
        acceptance_of number reply note.0,
        refl,
        refl,
        subst (λ (o : Option Step). In (acceptance_of number reply note.0) (acceptances (of_own number o ++ rest))) (sym is)
            (accepts number rest made.notes reply note.0 result_is note.1),
      )

  pub of_an_entry : (number : ℕ) (v : WorldState) (old : Client) (between : State) (now : Moment) (draw : Draw) (round : Round) (new : State) (reply : Reply)
      → IsReached v → IsIn number (device between.server old) v
      → ClientStep false (client_core old) round.begun.notes (client_core between.own)
      → Carries is_sealing between now draw round new
      → IsTold round reply → Premise v.minted (noted number round ++ v.notes)
      → (a : Acceptance) × (a.by ≡ number) × (a.reply ≡ reply) × IsReplyOfRequest (noted number round ++ v.notes) a
  of_an_entry number v old between now draw round new reply reached is_in kind carries told premise =
      let goes = of_round is_sealing number v old between now draw round new reached is_in kind carries in
      let notes = noted number round ++ v.notes in
      let held : Premise goes.w.minted goes.w.notes =
      subst (λ (ns : List Noted). Premise goes.w.minted ns) (sym goes.notes) (subst (λ (m : List Minted). Premise m notes) (sym goes.minted) premise) in
      let one = history goes.w goes.reached held in
      let a = learnt number (of_server round.served ++ (of_own number (Some round.begun) ++ v.notes)) reply between.own new.own now draw round.served round.learnt told.0 told.1 told.2 carries.comes_back in
      let same : of_own number round.learnt ++ (of_server round.served ++ (of_own number (Some round.begun) ++ v.notes)) ≡ goes.w.notes = regrouped number round v.notes ∙ sym goes.notes in
      (a.0, a.1, a.2, subst (λ (ns : List Noted). IsReplyOfRequest ns a.0) goes.notes (one.answered a.0 (subst (λ (ns : List Noted). In a.0 (acceptances ns)) same a.3)))
