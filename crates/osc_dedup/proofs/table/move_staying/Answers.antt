use Rattle.std.proofs.Common.{◌≡◌, ◌++◌, ◌-◌, count_by, filter, length, drop, ap, sym, ◌∙◌, arith}
use Rattle.indexmap.specs.Drain.{drain_rest}
use Rattle.osc_dedup.specs.{stays, same_key}
use Rattle.osc_dedup.proofs.Distinct.{filter_kept, filter_gone, drop_fewer, distinct_past, absent_next, whole_range}
use Rattle.osc_dedup.proofs.Keys.{same_key_equiv}
use Rattle.osc_dedup.proofs.table.move_staying.Goals as goal

pub loop-key-init : goal.loop-key-init
loop-key-init c =
    let whole : drain_rest c.into_iter-key-iterator.result ≡ c.args.from.now.entries =
    ap drain_rest c.into_iter-key-iterator.ensures.into_iter_gives ∙ c.drain-key-items.ensures.rest ∙ whole_range c.args.from.now.entries in
    let test = stays c.args.now c.args.replaced in
    let left : c.saturating_sub-left.result ≡ count_by test c.args.from.now.entries - c.args.most = omega (arith, c.count_staying.ensures.counted) in
    record {
      moves = rw (c.requires.empty, whole) (ap (λ n. drop n (filter test c.args.from.now.entries)) left);
      apart = rw (c.requires.empty, whole) c.count_staying.ensures.distinct;
      room = rw whole c.requires.room;
      kept = omega arith;
    }

pub loop-key-preserved-then-left-gt0 : goal.loop-key-preserved-then-left-gt0
loop-key-preserved-then-left-gt0 c =
    let test = stays c.args.now c.args.replaced in
    let split = c.in-Some.ensures.steps.0 in
    let old = c.loop-key.invariant in
    record {
      moves = ap (λ xs. c.loop-key.to.entries ++ xs)
          (sym (ap (drop c.loop-key.left) (filter_kept test (c.in-Some.key, c.in-Some.noted) _ _ split (sym c.stays.ensures ∙ c.if-stays.true))
          ∙ drop_fewer c.loop-key.left _ _ c.if-left-gt0.true))
          ∙ old.moves;
      apart = distinct_past same_key c.loop-key.to.entries _ _ _ split old.apart;
      room = omega (arith, ap length split, old.room);
      kept = old.kept;
    }

pub loop-key-preserved-then-left-gt0-2 : goal.loop-key-preserved-then-left-gt0-2
loop-key-preserved-then-left-gt0-2 c =
    let test = stays c.args.now c.args.replaced in
    let split = c.in-Some.ensures.steps.0 in
    let old = c.loop-key.invariant in
    record {
      moves = ap (λ xs. c.loop-key.to.entries ++ xs)
          (sym (ap (drop c.loop-key.left) (filter_kept test (c.in-Some.key, c.in-Some.noted) _ _ split (sym c.stays.ensures ∙ c.if-stays.true))
          ∙ drop_fewer c.loop-key.left _ _ c.if-left-gt0.true))
          ∙ old.moves;
      apart = distinct_past same_key c.loop-key.to.entries _ _ _ split old.apart;
      room = omega (arith, ap length split, old.room);
      kept = old.kept;
    }

pub append-requires-clause-absent : goal.append-requires-clause-absent
append-requires-clause-absent c =
    absent_next same_key_equiv c.loop-key.to.entries (c.in-Some.key, c.in-Some.noted) _ _ c.in-Some.ensures.steps.0 c.loop-key.invariant.apart

pub append-requires-clause-room : goal.append-requires-clause-room
append-requires-clause-room c = omega (arith, ap length c.in-Some.ensures.steps.0, c.loop-key.invariant.room)

pub loop-key-preserved : goal.loop-key-preserved
loop-key-preserved c =
    let test = stays c.args.now c.args.replaced in
    let split = c.in-Some.ensures.steps.0 in
    let old = c.loop-key.invariant in
    record {
      moves = ap (λ xs. c.loop-key.to.entries ++ drop c.loop-key.left xs)
          (sym (filter_gone test (c.in-Some.key, c.in-Some.noted) _ _ split (sym c.stays.ensures ∙ c.if-stays.false)))
          ∙ old.moves;
      apart = distinct_past same_key c.loop-key.to.entries _ _ _ split old.apart;
      room = omega (arith, ap length split, old.room);
      kept = old.kept;
    }

pub loop-key-preserved-else-stays : goal.loop-key-preserved-else-stays
loop-key-preserved-else-stays c =
    let test = stays c.args.now c.args.replaced in
    let split = c.in-Some.ensures.steps.0 in
    let old = c.loop-key.invariant in
    record {
      moves = ap (λ xs. c.loop-key.to.entries ++ drop c.loop-key.left xs)
          (sym (filter_gone test (c.in-Some.key, c.in-Some.noted) _ _ split (sym c.stays.ensures ∙ c.if-stays.false)))
          ∙ old.moves;
      apart = distinct_past same_key c.loop-key.to.entries _ _ _ split old.apart;
      room = omega (arith, ap length split, old.room);
      kept = old.kept;
    }
