use Rattle.std.proofs.Common.{◌≡◌, ◌++◌, ◌-◌, ◌∙◌, ap, arith, length}
use Rattle.osc_script.proofs.Payloads.{goes_on_at, still_few, ends_at, is_done_at}
use Rattle.osc_script.proofs.words.joined.Goals as goal

pub returns-in_default : goal.returns-in_default
returns-in_default c =
    let none = rw c.in_default.is at c.in_ok-more.ensures in
    ends_at c.args.most (c.args.most - c.len.result) c.loop-part.items.items c.args.parts.now c.loop-part.part-index _ _ c.loop-part-test.true none c.loop-part.invariant.joined

pub loop-part-preserved : goal.loop-part-preserved
loop-part-preserved c =
    let left : c.args.most - c.len.result ≡ c.args.most - length c.loop-part.items.items = omega (arith, c.len.ensures, c.loop-part.items.ok.0) in
    let some = rw c.in-Some.is at c.in_ok-more.ensures in
    let all = c.in_ok-extend_from_slice.ensures.items ∙ ap (λ x. c.loop-part.items.items ++ x) c.deref.ensures.value in
    record {
      few = still_few c.args.most (c.args.most - c.len.result) c.loop-part.items.items c.in-Some.more.items c.extend_from_slice.new.self.items _ left c.loop-part.invariant.few some all;
      joined = goes_on_at c.args.most (c.args.most - c.len.result) c.loop-part.items.items c.in-Some.more.items c.extend_from_slice.new.self.items c.args.parts.now c.loop-part.part-index _ _ c.loop-part-test.true left c.loop-part.invariant.few some all c.loop-part.invariant.joined;
    }

pub returns : goal.returns
returns c = is_done_at c.args.most c.loop-part.items.items c.args.parts.now c.loop-part.part-index _ c.loop-part-test.false c.loop-part.invariant.few c.loop-part.invariant.joined
