use Rattle.std.proofs.Common.{◌≡◌, ◌++◌, take, drop}
use Rattle.osc_hkdf.specs.{pad}
use Rattle.osc_hkdf.proofs.mac.xor_each.Given as goal

abbrev pub invariant-loop-byte : goal.invariant-loop-byte
invariant-loop-byte l = l.bytes ≡ pad l.constant (take l.byte-index l.initial.bytes) ++ drop l.byte-index l.initial.bytes
