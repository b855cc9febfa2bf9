use Rattle.std.proofs.Common.{◌≡◌, ◌∙◌, ◌+◌, ◌++◌, ◌∷◌, [], List, Option, ap, arith, length, subst₂, sym}
use Rattle.std.proofs.lemmas.Grind.{common_steps}
use Rattle.osc_turn.specs.declared.turning.Stepped.{Stepped}
use Rattle.osc_turn.specs.{BatchState, Received, any_changed, running}
use Rattle.osc_turn.specs.Inner.Making.{HasMade, MakesNext}
use Rattle.osc_turn.specs.Running.{Running}
use Rattle.osc_turn.proofs.kept.MakingLemmas.{any_more, ended_by, ended_whole, fails_at, made_more, next_at, none_in, on_err, some_in, step_made, taken_whole}
use Rattle.osc_turn.proofs.kept.turning.more_steps.Goals as goal

long_by : (batch new : BatchState) (stepped : Stepped) → new ≡ record batch { steps = batch.steps ++ stepped ∷ [] } → length new.steps ≡ length batch.steps + 1
long_by batch new stepped is = ap (λ (b : BatchState). length b.steps) is ∙ grind (arith, common_steps)

pub returns-in_err-write_made-in-Ok-Some-clause-missed : goal.returns-in_err-write_made-in-Ok-Some-clause-missed
returns-in_err-write_made-in-Ok-Some-clause-missed g c = λ first received begun.
    let at = c.args.batch.now.at in
    let next = next_at g.N.Node.acts g.N.Node.is_step c.at-now.result c.args.batch.now.at (running c.loop.kept.node c.loop.pace.busy_since c.loop.supply) c.in-Ok-Some.stepped (running c.next_step.new.node c.next_step.new.pace.busy_since c.next_step.new.supply)
    (g.P.Port.received c.loop.port) (g.P.Port.received c.next_step.new.port) c.at-now.ensures
    (some_in (λ (one : Stepped). MakesNext g.N.Node.acts g.N.Node.is_step c.at-now.result (running c.loop.kept.node c.loop.pace.busy_since c.loop.supply) one (running c.next_step.new.node c.next_step.new.pace.busy_since c.next_step.new.supply)
    (g.P.Port.received c.loop.port) (g.P.Port.received c.next_step.new.port)) c.in-Ok-Some.field-0 c.in-Ok-Some.stepped c.in-Ok-Some.field-0-is c.in-Ok-Some.ensures.made) in
    let more = made_more g.N.Node.acts g.N.Node.is_step at first _ c.loop.batch c.in-Ok-Some.stepped _ received _ _ (c.loop.invariant.made first received begun) next in
    let there = subst₂ (λ (b : BatchState) (n : g.row.N.Denot). HasMade g.N.Node.acts g.N.Node.is_step at first b
    (running n c.next_step.new.pace.busy_since c.next_step.new.supply) received (g.P.Port.received c.next_step.new.port))
    (sym c.write_made.ensures.batch) (sym c.write_made.ensures.node) more in
    on_err c.from_residual.result _ (taken_whole g.N.Node.acts g.N.Node.is_step at first c.write_made.new.batch _ received _ there
    (omega (arith, long_by c.loop.batch c.write_made.new.batch c.in-Ok-Some.stepped c.write_made.ensures.batch, c.loop.invariant.long, c.loop-test.true)))

pub returns-in-Ok-None-clause-ended : goal.returns-in-Ok-None-clause-ended
returns-in-Ok-None-clause-ended g c = λ first received begun.
    let at = c.args.batch.now.at in
    let nothing = none_in c.in-Ok-None.field-0 c.in-Ok-None.field-0-is c.in-Ok-None.ensures.nothing in
    let there = subst₂ (λ (r : Running g.row.N.Denot) (gave : Option (List (Option Received))). HasMade g.N.Node.acts g.N.Node.is_step at first c.loop.batch r received gave)
    (sym nothing.0) (sym nothing.1) (c.loop.invariant.made first received begun) in
    ended_whole g.N.Node.acts g.N.Node.is_step at first c.loop.batch _ received _ _ _ there (omega (arith, c.loop.invariant.long, c.loop-test.true))
    (c.in-Ok-None.ensures.no_fault ∙ c.loop.invariant.no_fault)

pub returns-in-Err-clause-ended : goal.returns-in-Err-clause-ended
returns-in-Err-clause-ended g c = λ first received begun.
    ended_by g.N.Node.acts g.N.Node.is_step c.args.batch.now.at first _ c.loop.batch c.in-Err.error _ received _ _ _ _ _
    (c.loop.invariant.made first received begun) (omega (arith, c.loop.invariant.long, c.loop-test.true)) c.loop.invariant.no_fault
    (fails_at g.N.Node.acts g.N.Node.is_step c.at-now.result c.args.batch.now.at c.in-Err.error (running c.loop.kept.node c.loop.pace.busy_since c.loop.supply) (running c.next_step.new.node c.next_step.new.pace.busy_since c.next_step.new.supply)
    (g.P.Port.received c.loop.port) (g.P.Port.received c.next_step.new.port) (g.P.Port.failures c.loop.port) (g.P.Port.failures c.next_step.new.port)
    c.at-now.ensures c.in-Err.ensures.fails)

pub loop-preserved : goal.loop-preserved
loop-preserved g c =
    let at = c.args.batch.now.at in
    let so_far = c.loop.invariant in
    let stepped = c.in-Ok-Some.stepped in
    let wrote = c.in_ok-write_made-in-Ok-Some.ensures in
    let next = next_at g.N.Node.acts g.N.Node.is_step c.at-now.result c.args.batch.now.at (running c.loop.kept.node c.loop.pace.busy_since c.loop.supply) c.in-Ok-Some.stepped (running c.next_step.new.node c.next_step.new.pace.busy_since c.next_step.new.supply)
    (g.P.Port.received c.loop.port) (g.P.Port.received c.next_step.new.port) c.at-now.ensures
    (some_in (λ (one : Stepped). MakesNext g.N.Node.acts g.N.Node.is_step c.at-now.result (running c.loop.kept.node c.loop.pace.busy_since c.loop.supply) one (running c.next_step.new.node c.next_step.new.pace.busy_since c.next_step.new.supply)
    (g.P.Port.received c.loop.port) (g.P.Port.received c.next_step.new.port)) c.in-Ok-Some.field-0 c.in-Ok-Some.stepped c.in-Ok-Some.field-0-is c.in-Ok-Some.ensures.made) in
    let step = step_made g.N.Node.acts g.N.Node.is_step at _ stepped _ _ _ next in
    record {
      long = long_by c.loop.batch c.write_made.new.batch stepped wrote.batch ∙ ap (λ n. n + 1) so_far.long;
      made = λ first received begun.
          subst₂ (λ (b : BatchState) (n : g.row.N.Denot). HasMade g.N.Node.acts g.N.Node.is_step at first b
          (running n c.next_step.new.pace.busy_since c.next_step.new.supply) received (g.P.Port.received c.next_step.new.port))
          (sym wrote.batch) (sym wrote.node)
          (made_more g.N.Node.acts g.N.Node.is_step at first _ c.loop.batch stepped _ received _ _ (so_far.made first received begun) next);
      at = ap (λ (b : BatchState). b.at) wrote.batch ∙ so_far.at;
      no_fault = c.in-Ok-Some.ensures.no_fault ∙ so_far.no_fault;
      not_sent = c.in-Ok-Some.ensures.not_sent ∙ so_far.not_sent;
      written = λ begun writes. wrote.written begun _ step.0 step.1 (so_far.written begun writes);
      nothing = λ none. let both = any_more c.loop.batch.steps stepped (ap (λ (b : BatchState). any_changed b.steps) (sym wrote.batch) ∙ none) in
          (wrote.nothing both.1).1 ∙ so_far.nothing both.0;
      more = λ none. so_far.more (any_more c.loop.batch.steps stepped (ap (λ (b : BatchState). any_changed b.steps) (sym wrote.batch) ∙ none)).0;
      counts = omega (arith, so_far.counts, wrote.counts);
      trust = λ trusts. so_far.trust (wrote.trust trusts);
      file = wrote.file ∙ so_far.file;
    }

pub returns-clause-ended : goal.returns-clause-ended
returns-clause-ended g c = λ first received begun.
    ended_whole g.N.Node.acts g.N.Node.is_step c.args.batch.now.at first c.loop.batch _ received _ _ _ (c.loop.invariant.made first received begun)
    (omega (arith, c.loop.invariant.long, c.loop.auto.counter-end)) c.loop.invariant.no_fault
