use Rattle.std.proofs.Common.{◌*◌}
use Rattle.osc_ccm.specs.Inner.Stream.{IsCiphered}
use Rattle.osc_ccm.proofs.stream.cipher_in_place.Given as goal

abbrev pub invariant-loop-pair : goal.invariant-loop-pair
invariant-loop-pair l = IsCiphered l.cipher l.nonce l.initial.bytes (2 * l.pair) l.bytes
