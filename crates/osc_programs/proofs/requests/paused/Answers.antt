use Rattle.std.proofs.Common.{refl}
use Rattle.osc_programs.specs.{Passed, nothing_passed, then_passed}
use Rattle.osc_programs.specs.Staying.{at_first, turn}
use Rattle.osc_programs.proofs.Passing.{passes_more, passes_none}
use Rattle.osc_programs.proofs.requests.paused.Goals as goal

pub loop-init : goal.loop-init
loop-init g c = (nothing_passed, at_first, passes_none g.P.Port.received g.P.Port.sent _)

pub loop-preserved : goal.loop-preserved
loop-preserved g c =
    let so_far = c.loop.invariant in
    let took = c.in_ok-learnt.ensures.takes in
    let own : Passed = record { received = took.0; sent = took.1.out } in (
      then_passed so_far.0 own,
      turn so_far.0 _ _ _ _ _ took.0 took.1 so_far.1 c.in_ok-now.ensures.gives took.2,
      passes_more g.P.Port.received g.P.Port.sent _ _ _ so_far.0 own so_far.2 took.4,
    )

pub returns-then-due-now-clause-pauses : goal.returns-then-due-now-clause-pauses
returns-then-due-now-clause-pauses g c =
    let so_far = c.loop.invariant in (
      so_far.0,
      record { last = _; idles = so_far.1; draw = _; supply = _; gives = c.in_ok-now.ensures.gives; late = c.if-due-now.true; is = refl },
      so_far.2,
    )
