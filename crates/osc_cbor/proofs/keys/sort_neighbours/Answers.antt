use Rattle.std.proofs.Common.{arith}
use Rattle.std.proofs.lemmas.List.Sorted.{IsPermutation-trans}
use Rattle.osc_cbor.proofs.keys.sort_neighbours.Goals as goal
use Rattle.osc_cbor.proofs.keys.sort_neighbours.Goals.{then-keys-end+then-start-end, then-keys-end+else-start-end, else-keys-end}

pub loop-end-preserved : goal.loop-end-preserved
loop-end-preserved c =
    elim c.if-keys-end.branch [
      | then-keys-end+then-start-end w ↦ rw (w.keys-is, w.start-is) (IsPermutation-trans _ _ _ c.loop-end.invariant.0 w.sort_part.ensures.permutation, omega (arith, w.sort_part.ensures.len, c.loop-end.invariant.1), omega arith, omega (arith, w.sort_part.ensures.len, c.loop-end.invariant.1, c.loop-end-test.true))
      | then-keys-end+else-start-end w ↦ rw (w.keys-is, w.start-is) (c.loop-end.invariant.0, c.loop-end.invariant.1, omega arith, omega (arith, c.loop-end-test.true, c.loop-end.invariant.1))
      | else-keys-end w ↦ rw (w.keys-is, w.start-is) (c.loop-end.invariant.0, c.loop-end.invariant.1, omega (arith, c.loop-end.invariant.2), c.loop-end.invariant.3)
    ]

pub returns : goal.returns
returns c = IsPermutation-trans _ _ _ c.loop-end.invariant.0 c.sort_part-2.ensures.permutation
