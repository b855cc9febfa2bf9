use Rattle.std.proofs.Common.{◌≡◌, map}
use Rattle.std.specs.List.{fold, range_with_len}
use Rattle.osc_ccm.specs.{filled, piece, mac_step}
use Rattle.osc_ccm.proofs.mac.absorb.Given as goal

abbrev pub invariant-loop-index : goal.invariant-loop-index
invariant-loop-index l = l.state ≡ fold (mac_step l.cipher) l.initial.state (map (λ i. filled (piece l.bytes i)) (range_with_len 0 l.index))
