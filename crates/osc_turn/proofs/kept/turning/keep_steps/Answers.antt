use Rattle.std.proofs.Common.{◌≤◌, arith, rules, subst, sym}
use Rattle.sqlite_disk.specs.Disk.{MoreFaults}
use Rattle.osc_store.specs.Causes.{WhyNotKept}
use Rattle.osc_turn.specs.{running}
use Rattle.osc_turn.specs.Inner.Making.{HasMade}
use Rattle.osc_turn.proofs.kept.CauseLemmas.{if_err_map, why_since}
use Rattle.osc_turn.proofs.kept.MakingLemmas.{on_err, taken_whole}
use Rattle.osc_turn.proofs.kept.turning.keep_steps.Goals as goal

pub returns-in_err-write_first-clause-missed : goal.returns-in_err-write_first-clause-missed
returns-in_err-write_first-clause-missed g c = λ first received begun.
    let there = subst (λ (n : g.row.N.Denot). HasMade g.N.Node.acts g.N.Node.is_step c.args.batch.now.at first c.args.batch.now
    (running n c.args.pace.now.busy_since c.args.supply.now) received (g.P.Port.received c.args.port.now)) (sym c.write_first.ensures.node) begun in
    on_err c.from_residual.result _ (taken_whole g.N.Node.acts g.N.Node.is_step c.args.batch.now.at first c.args.batch.now _ received _ there (omega (arith, c.requires)))

pub returns-in_err-ended-clause-cause : goal.returns-in_err-ended-clause-cause
returns-in_err-ended-clause-cause g c = λ begun cause stepped is step keeps trusts.
    let faults = g.K.KeepsSteps.faults in
    let first = c.in_ok-write_first.ensures.written begun begun cause stepped is step (g.met.K.KeepsSteps.writes_first c.args.kept.now.keeper begun keeps) in
    let why = c.in_err-ended.ensures.cause begun first trusts in
    if_err_map c.from_residual-in_err-ended.result
    (WhyNotKept (MoreFaults (faults c.write_first.new.kept.keeper) (faults c.more_steps.new.kept.keeper)) (g.K.KeepsSteps.too_long c.more_steps.new.kept.node)) _
    (why_since (faults c.args.kept.now.keeper) (faults c.write_first.new.kept.keeper) (faults c.more_steps.new.kept.keeper) _ _ c.write_first.ensures.counts (λ long. long))
    (search rules)

pub returns-in_err-settle-clause-missed : goal.returns-in_err-settle-clause-missed
returns-in_err-settle-clause-missed g c = λ first received begun.
    let there = subst (λ (n : g.row.N.Denot). HasMade g.N.Node.acts g.N.Node.is_step c.args.batch.now.at first c.args.batch.now
    (running n c.args.pace.now.busy_since c.args.supply.now) received (g.P.Port.received c.args.port.now)) (sym c.write_first.ensures.node) begun in
    on_err c.from_residual-in_err-settle.result _ (c.in_ok-ended.ensures.ended first received there).taken

pub returns-in_err-settle-clause-cause : goal.returns-in_err-settle-clause-cause
returns-in_err-settle-clause-cause g c = λ begun cause stepped is step keeps trusts.
    let faults = g.K.KeepsSteps.faults in
    let first = c.in_ok-write_first.ensures.written begun begun cause stepped is step (g.met.K.KeepsSteps.writes_first c.args.kept.now.keeper begun keeps) in
    let why = c.in_err-settle.ensures.cause begun c.more_steps.new.kept.node (c.in_ok-ended.ensures.written begun first) trusts in
    let since : faults c.args.kept.now.keeper ≤ faults c.more_steps.new.kept.keeper = omega (arith, c.write_first.ensures.counts, c.more_steps.ensures.counts) in
    if_err_map c.from_residual-in_err-settle.result
    (WhyNotKept (MoreFaults (faults c.more_steps.new.kept.keeper) (faults c.settle.new.keeper)) ⊥) _
    (why_since (faults c.args.kept.now.keeper) (faults c.more_steps.new.kept.keeper) (faults c.settle.new.keeper) _ _ since (λ no. absurd no))
    (search rules)
