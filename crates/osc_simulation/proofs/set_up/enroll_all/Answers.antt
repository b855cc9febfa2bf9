use Rattle.std.proofs.Common.{subst, sym}
use Rattle.osc_simulation.specs.{AllEnrolled}
use Rattle.osc_simulation.proofs.Runs.{drop_item}
use Rattle.osc_simulation.proofs.set_up.enroll_all.Goals as goal

pub loop-line-preserved : goal.loop-line-preserved
loop-line-preserved c =
    let here = c.loop-line in
    let left = drop_item c.args.lines.now here.line-index c.line-item.result c.loop-line-test.true c.line-item.is in
    record {
      count = c.in_ok-enroll.ensures.count;
      rest = λ last more. here.invariant.rest last
          (subst (λ lines. AllEnrolled c.args.lines.now here.start lines last) (sym left) (c.enroll.new.start, c.in_ok-enroll.ensures.enrolled, more));
    }
