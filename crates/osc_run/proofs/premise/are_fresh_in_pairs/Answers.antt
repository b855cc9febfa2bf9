use Rattle.std.proofs.Common.{refl}
use Rattle.osc_run.proofs.NotedPremise.{fresh_at}
use Rattle.osc_run.proofs.premise.are_fresh_in_pairs.Goals as goal

pub returns-then-repeats_a_draw : goal.returns-then-repeats_a_draw
returns-then-repeats_a_draw c = (
  (λ e. absurd (cc)),
  (λ f.
      let again = c.if-repeats_a_draw.ensures.0 refl in
      absurd (fresh_at c.args.steps.now c.loop-i.i c.index-steps-i.result c.loop-i-test.true c.index-steps-i.is f again.0 again.1 again.2)),
)
