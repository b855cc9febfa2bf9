use Rattle.std.proofs.Common.{◌≡◌, ◌↔◌, take}
use Rattle.osc_ccm.proofs.block.is_same.Given as goal

abbrev pub invariant-loop-index : goal.invariant-loop-index
invariant-loop-index l = (l.difference ≡ 0) ↔ (take l.index l.one ≡ take l.index l.other)
