-- What is assumed of a run goes on over the three steps of a round.
use Rattle.std.proofs.Common.{◌≡◌, ◌∙◌, sym, ap, subst, refl, List, [], ◌∷◌, Option, Some, None, inr}
use Rattle.osc_model.specs.{quiet}
use Rattle.osc_model.specs.StepNotes.{StepNotes}
use Rattle.osc_model.specs.declared.step.Note.{Note}
use Rattle.osc_model.specs.declared.step.Step.{Step}
use Rattle.osc_ccm.specs.{Sealings, Tags}
use Rattle.osc_client.specs.{Asked, Asks, asks, hindered}
use Rattle.osc_client.specs.State.{State as Client}
use Rattle.osc_rounds.specs.{AreAmongQuiet}
use Rattle.osc_run.specs.{Noted, HasFreshDraws, Minted}
use Rattle.osc_run.specs.Premise.{Premise}
use Rattle.osc_world.specs.{KeepsThePremise, State}

-- three steps, and no others
pub these_three : (a b c : Noted) → AreAmongQuiet (a ∷ b ∷ c ∷ []) (a ∷ b ∷ c ∷ [])
these_three a b c = inr (b ∷ c ∷ [], refl, inr (c ∷ [], refl, inr ([], refl, refl)))

-- a world that has them on top of the old one
pub keeps : (old new : State) (steps : List Noted) → new.minted ≡ old.minted → new.steps ≡ steps
    → (Premise old.minted old.steps → Premise old.minted steps) → KeepsThePremise old new
keeps old new steps minted is goes_on premise =
    subst (λ (m : List Minted). Premise m new.steps) (sym minted) (subst (λ (s : List Noted). Premise old.minted s) (sym is) (goes_on premise))

pub fresh_as : (new : State) (steps : List Noted) → new.steps ≡ steps → HasFreshDraws new.steps → HasFreshDraws steps
fresh_as new steps is fresh = subst HasFreshDraws is fresh

-- what asks and seals notes nothing else
pub asks_notes : (is_sealing : Sealings) (tag : Tags) (client after : Client) (asked : Asked) (step : Step) (note : Note)
    → Asks is_sealing tag client asked step after → step.notes.seals ≡ Some note → step.notes ≡ record quiet { seals = Some note }
asks_notes is_sealing tag client after asked step note (hindered number is refused) seals =
    let none : None ≡ Some note = sym (ap (λ (s : Step). s.notes.seals) refused.told) ∙ seals in absurd (wrong none)
  where
    wrong : None ≡ Some note → ⊥
    wrong e = cc
asks_notes is_sealing tag client after asked step note (asks context protected free made spelled told kept) seals =
    ap (λ (s : Step). s.notes) told
    ∙ ap (λ (o : Option Note). let n : StepNotes = record quiet { seals = o } in n) (sym (ap (λ (s : Step). s.notes.seals) told) ∙ seals)
