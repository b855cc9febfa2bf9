use Rattle.std.proofs.Common.{◌≡◌, ◌⊎◌, ◌↔◌, ℕ, List, Option, Some, IsTrue, sym, ap, ◌∙◌, subst}
use Rattle.std.specs.Prelude.{nat_eq}
use Rattle.std.specs.Cmp.Lexicographic.{pointwise}
use Rattle.std.specs.HashSet.{contains}
use Rattle.osc_model.specs.StepNotes.{StepNotes}
use Rattle.osc_run.proofs.Draws.{never_both, fresh_next, holds_next}
use Rattle.osc_run.proofs.NotedPremise.{fresh_at}
use Rattle.osc_run.proofs.premise.are_fresh_in_a_set.Goals as goal

pub returns-then-not-branch : goal.returns-then-not-branch
returns-then-not-branch c =
    let s = c.step-item.result in
    let read = c.drawn.ensures ∙ ap (λ (n : StepNotes). n.drawn) c.notes.ensures in (
      (λ e. absurd (cc)),
      (λ h.
          let new = c.in_ok-add_drawn.ensures.fresh.1 (λ nonce is held.
          fresh_at c.args.steps.now c.loop-step.step-index s c.loop-step-test.true c.step-item.is h nonce (sym read ∙ is) ((c.loop-step.invariant.held nonce).0 held)) in
          absurd (never_both c.in_ok-add_drawn.field-0 new c.if-not-branch.true)),
    )

pub loop-step-preserved : goal.loop-step-preserved
loop-step-preserved c =
    let s = c.step-item.result in
    let read = c.drawn.ensures ∙ ap (λ (n : StepNotes). n.drawn) c.notes.ensures in
    let was = contains (pointwise nat_eq) c.loop-step.drawn in
    let now = contains (pointwise nat_eq) c.add_drawn.new.drawn in record {
      fresh = fresh_next was c.args.steps.now c.loop-step.step-index s c.loop-step-test.true c.step-item.is c.loop-step.invariant.held c.loop-step.invariant.fresh
          (λ nonce is. c.in_ok-add_drawn.ensures.fresh.0 c.if-not-branch.false nonce (read ∙ is));
      held = holds_next was now c.args.steps.now c.loop-step.step-index s c.loop-step-test.true c.step-item.is c.loop-step.invariant.held
          (subst (λ (drawn : Option (List ℕ)). (nonce : List ℕ) → IsTrue (now nonce) ↔ ((drawn ≡ Some nonce) ⊎ IsTrue (was nonce))) read c.in_ok-add_drawn.ensures.added);
    }
