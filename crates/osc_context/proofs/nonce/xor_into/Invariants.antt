use Rattle.std.proofs.Common.{◌≡◌, ◌++◌, take, drop, bit_xor}
use Rattle.std.specs.Simd.Lanes.{zip2}
use Rattle.osc_context.proofs.nonce.xor_into.Given as goal

abbrev pub invariant-loop-index : goal.invariant-loop-index
invariant-loop-index l = l.bytes ≡ zip2 bit_xor (take l.index l.initial.bytes) l.others ++ drop l.index l.initial.bytes
