use Rattle.std.proofs.Common.{◌∙◌, ◌+◌, ap, get_or}
use Rattle.osc_log.specs.Counters.{with_count}
use Rattle.osc_log.specs.Inner.Building.{line_of}
use Rattle.osc_log.proofs.Counts.{counts_next, counts_last}
use Rattle.osc_log.proofs.counting.with_counts.Goals as goal

pub loop-count-preserved : goal.loop-count-preserved
loop-count-preserved c =
    let loop = c.loop-count in
    let counts = c.args.counts.now in
    let added = c.in_ok-more.ensures ∙ ap (λ place. with_count place (get_or counts loop.count-index 0) (line_of loop.more)) loop.invariant.place in record {
      place = ap (λ place. place + 1) loop.invariant.place;
      counted = counts_next counts loop.count-index (line_of loop.more) _ _ c.loop-count-test.true added loop.invariant.counted;
    }

pub returns : goal.returns
returns c = counts_last c.args.counts.now c.loop-count.count-index (line_of c.loop-count.more) _ c.loop-count-test.false c.loop-count.invariant.counted
