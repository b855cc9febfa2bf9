use Rattle.osc_run.proofs.NotedPremise.{genuine_at}
use Rattle.osc_run.proofs.premise.is_genuine.Goals as goal

pub returns-then-not-opens_genuinely : goal.returns-then-not-opens_genuinely
returns-then-not-opens_genuinely c = (
  (λ e. absurd (cc)),
  (λ g. absurd (cc (c.if-not-opens_genuinely.ensures.1 (genuine_at c.args.minted.now c.args.steps.now c.loop-i.i c.index-steps-i.result c.loop-i-test.true c.index-steps-i.is g)))),
)
