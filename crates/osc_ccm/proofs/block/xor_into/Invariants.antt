use Rattle.std.proofs.Common.{◌≡◌, ◌++◌, take, drop}
use Rattle.osc_ccm.specs.{xor}
use Rattle.osc_ccm.proofs.block.xor_into.Given as goal

abbrev pub invariant-loop-index : goal.invariant-loop-index
invariant-loop-index l = l.bytes ≡ xor (take l.index l.initial.bytes) l.block ++ drop l.index l.initial.bytes
