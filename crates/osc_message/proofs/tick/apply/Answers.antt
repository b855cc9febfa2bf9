use Rattle.std.proofs.Common.{arith}
use Rattle.std.proofs.lemmas.List.{get_or_default}
use Rattle.osc_message.proofs.Walk.{changed, still_bounded}
use Rattle.osc_message.proofs.tick.apply.Goals as goal

pub loop-due-preserved : goal.loop-due-preserved
loop-due-preserved c =
    let old = c.loop-due.invariant in
    let done = c.change-place.ensures in
    record {
      items = changed c.args.now _ c.loop-due.sending.items c.change-place.new.sending.items c.args.dues.now c.loop-due.place c.change-place.result c.loop-due.due-index _ (omega arith) (omega arith) (get_or_default c.args.dues.now c.loop-due.due-index _ _ (omega arith)) old.items done.front done.back;
      each = omega (arith, old.each, done.moved);
      bounded = still_bounded c.loop-due.sending.items c.change-place.new.sending.items c.loop-due.place c.change-place.result (omega arith) old.bounded done.back;
      placed = λ places. done.placed (old.placed places);
      len = omega (arith, old.len, done.len);
      capacity = omega (arith, old.capacity, done.capacity);
    }
