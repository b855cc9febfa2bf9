use Rattle.std.proofs.Common.{◌≡◌, ap, sym, ◌∙◌, Some, Bor}
use Rattle.std.specs.Prelude.{option_map}
use Rattle.osc_model.specs.StepNotes.{StepNotes}
use Rattle.osc_model.specs.declared.step.Note.{Note}
use Rattle.osc_run.proofs.NotedPremise.{vouched_by, vouched_parts}
use Rattle.osc_run.proofs.premise.vouches.Goals as goal

pub returns-in-Some : goal.returns-in-Some
returns-in-Some c =
    let seal : c.args.step.now.notes.seals ≡ Some c.in-Some.sealing.now =
    ap (λ (n : StepNotes). n.seals) (sym c.notes.ensures) ∙ sym c.seals.ensures ∙ ap (option_map (λ (b : Bor Note). b.now)) c.in-Some.is in (
      (λ t. vouched_by c.args.step.now c.in-Some.sealing.now c.args.opening.now seal (c.is_opened_by.ensures.0 t)),
      (λ v. c.is_opened_by.ensures.1 (vouched_parts c.args.step.now c.in-Some.sealing.now c.args.opening.now seal v)),
    )
