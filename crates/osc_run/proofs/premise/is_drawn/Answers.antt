use Rattle.std.proofs.Common.{◌≡◌, List, ℕ, Some, refl, arith}
use Rattle.osc_run.specs.{Noted}
use Rattle.osc_run.proofs.Members.{has_at, none_more, none_of_all, has_of_reverse, has_in_reverse}
use Rattle.osc_run.proofs.premise.is_drawn.Goals as goal

abbrev Drew : List ℕ → Noted → Type 0
Drew nonce step = step.notes.drawn ≡ Some nonce

pub returns-then-draws : goal.returns-then-draws
returns-then-draws c = (
  (λ t. has_in_reverse (Drew c.args.nonce.now) c.args.steps.now
      (has_at (Drew c.args.nonce.now) c.args.steps.now c.loop-step.step-index c.step-item.result c.loop-step-test.true c.step-item.is (c.if-draws.ensures.0 refl))),
  (λ d. refl),
)

pub loop-step-preserved : goal.loop-step-preserved
loop-step-preserved c =
    none_more (Drew c.args.nonce.now) c.args.steps.now c.loop-step.step-index c.step-item.result c.loop-step-test.true c.step-item.is c.loop-step.invariant
    (λ d. absurd (cc (c.if-draws.ensures.1 d)))

pub returns : goal.returns
returns c = (
  (λ t. absurd (cc)),
  (λ d. absurd (none_of_all (Drew c.args.nonce.now) c.args.steps.now c.loop-step.step-index (omega (arith, c.loop-step-test.false)) c.loop-step.invariant (has_of_reverse (Drew c.args.nonce.now) c.args.steps.now d))),
)
