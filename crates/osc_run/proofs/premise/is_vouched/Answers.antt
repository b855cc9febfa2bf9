use Rattle.std.proofs.Common.{◌-◌, ◌<◌, length, refl, arith}
use Rattle.osc_run.proofs.NotedPremise.{vouched_at, not_vouched_before, not_vouched_behind, not_vouched_from_first}
use Rattle.osc_run.proofs.premise.is_vouched.Goals as goal

pub loop-i-init : goal.loop-i-init
loop-i-init c = not_vouched_behind c.args.earlier.now _ c.args.opening.now (omega arith)

pub returns-then-vouches : goal.returns-then-vouches
returns-then-vouches c =
    let within : c.loop-i.i - 1 < length c.args.earlier.now = omega (arith, c.loop-i-test.true, c.loop-i.auto.i) in (
      (λ t. vouched_at c.args.earlier.now (c.loop-i.i - 1) c.index-earlier-i.result c.args.opening.now within c.index-earlier-i.is (c.if-vouches.ensures.0 refl)),
      (λ v. refl),
    )

pub loop-i-preserved : goal.loop-i-preserved
loop-i-preserved c =
    not_vouched_before c.args.earlier.now c.loop-i.i c.index-earlier-i.result c.args.opening.now c.loop-i-test.true c.loop-i.auto.i c.index-earlier-i.is c.loop-i.invariant
    (λ v. absurd (cc (c.if-vouches.ensures.1 v)))

pub returns : goal.returns
returns c = (
  (λ t. absurd (cc)),
  (λ v. absurd (not_vouched_from_first c.args.earlier.now c.loop-i.i c.args.opening.now c.loop-i-test.false c.loop-i.invariant v)),
)
