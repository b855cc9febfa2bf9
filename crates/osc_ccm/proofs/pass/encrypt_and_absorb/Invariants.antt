use Rattle.std.proofs.Common.{◌≡◌, ◌++◌, ◌*◌, map, take, drop, length}
use Rattle.std.specs.List.{fold, range_with_len}
use Rattle.osc_ccm.specs.{xor, filled, piece, mac_step, key_stream}
use Rattle.osc_ccm.proofs.pass.encrypt_and_absorb.Given as goal

abbrev pub invariant-loop-index : goal.invariant-loop-index
invariant-loop-index l = record {
  absorbed : l.state ≡ fold (mac_step l.cipher) l.initial.state (map (λ i. filled (piece l.initial.bytes i)) (range_with_len 0 l.index));
  done : l.bytes ≡ xor (take (16 * l.index) l.initial.bytes) (key_stream l.cipher l.nonce l.index) ++ drop (16 * l.index) l.initial.bytes;
  streamed : length (key_stream l.cipher l.nonce l.index) ≡ 16 * l.index;
}
