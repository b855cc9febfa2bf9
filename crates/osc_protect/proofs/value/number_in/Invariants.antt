use Rattle.std.proofs.Common.{◌≡◌, ◌<◌, ◌^◌, take}
use Rattle.osc_protect.specs.Inner.ValueReading.{number_in}
use Rattle.osc_protect.proofs.value.number_in.Given as goal

abbrev pub invariant-loop-byte : goal.invariant-loop-byte
invariant-loop-byte l = (l.number ≡ number_in (take l.byte-index l.bytes)) × (l.number < 256 ^ l.byte-index)
