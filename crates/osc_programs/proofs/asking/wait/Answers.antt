use Rattle.std.proofs.Common.{◌∙◌, arith, inl, refl}
use Rattle.osc_programs.specs.{Passed, nothing_passed, then_passed}
use Rattle.osc_programs.proofs.Passing.{passes_none, passes_more}
use Rattle.osc_programs.proofs.Talking.{goes_on, is_early, is_late, learns, starts, still_open}
use Rattle.osc_programs.proofs.asking.wait.Goals as goal

pub loop-taken-init : goal.loop-taken-init
loop-taken-init g c = (omega arith, nothing_passed, passes_none g.P.Port.received g.P.Port.sent _, starts c.args.left.now.until c.args.left.now.turns _, c.requires, refl)

pub loop-taken-preserved : goal.loop-taken-preserved
loop-taken-preserved g c =
    let so_far = c.loop-taken.invariant in
    let turn = c.in_ok-learnt.ensures.takes in
    let own : Passed = record { received = turn.0; sent = turn.1.out } in
    let early = is_early c.args.left.now.until c.loop-taken.now _ so_far.4 c.if-until-now.false in (
      omega (arith, c.loop-taken-test.true),
      then_passed so_far.1 own,
      passes_more g.P.Port.received g.P.Port.sent _ _ _ so_far.1 own so_far.2 turn.4,
      goes_on c.args.left.now.until c.args.left.now.turns c.loop-taken.taken _ _ _ so_far.1 turn.0 turn.1 c.loop-taken-test.true early turn.2 (turn.3 ∙ c.in_default.is) so_far.3,
      c.in_ok-learnt.ensures.at,
      so_far.5,
    )

pub returns-then-until-now-clause-waits : goal.returns-then-until-now-clause-waits
returns-then-until-now-clause-waits g c =
    let so_far = c.loop-taken.invariant in (
      so_far.1,
      still_open c.args.left.now.until c.args.left.now.turns c.loop-taken.taken _ _ _ so_far.1 refl (is_late _ _ c.loop-taken.now _ so_far.4 c.if-until-now.true) so_far.3,
      so_far.2,
    )

pub returns-in-Some-clause-waits : goal.returns-in-Some-clause-waits
returns-in-Some-clause-waits g c =
    let so_far = c.loop-taken.invariant in
    let turn = c.in_ok-learnt.ensures.takes in
    let own : Passed = record { received = turn.0; sent = turn.1.out } in
    let early = is_early c.args.left.now.until c.loop-taken.now _ so_far.4 c.if-until-now.false in (
      then_passed so_far.1 own,
      learns c.args.left.now.until c.args.left.now.turns c.loop-taken.taken _ _ _ _ so_far.1 turn.0 turn.1 c.in-Some.result c.loop-taken-test.true (omega arith) early turn.2
          (turn.3 ∙ c.in-Some.is) so_far.3,
      passes_more g.P.Port.received g.P.Port.sent _ _ _ so_far.1 own so_far.2 turn.4,
    )

pub returns-clause-waits : goal.returns-clause-waits
returns-clause-waits g c =
    let so_far = c.loop-taken.invariant in (
      so_far.1,
      still_open c.args.left.now.until c.args.left.now.turns c.loop-taken.taken 0 _ _ so_far.1 (omega (arith, so_far.0, c.loop-taken-test.false)) (inl refl) so_far.3,
      so_far.2,
    )

pub returns-then-until-now-clause-until : goal.returns-then-until-now-clause-until
returns-then-until-now-clause-until g c = c.loop-taken.invariant.5

pub returns-in_err-learnt-clause-until : goal.returns-in_err-learnt-clause-until
returns-in_err-learnt-clause-until g c = c.loop-taken.invariant.5

pub returns-in-Some-clause-until : goal.returns-in-Some-clause-until
returns-in-Some-clause-until g c = c.loop-taken.invariant.5

pub returns-clause-until : goal.returns-clause-until
returns-clause-until g c = c.loop-taken.invariant.5
