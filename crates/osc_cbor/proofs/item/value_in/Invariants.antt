use Rattle.std.proofs.Common.{◌≡◌, drop}
use Rattle.osc_cbor.specs.{value_under, pairs_view}
use Rattle.osc_cbor.proofs.item.value_in.Given as goal

abbrev pub invariant-loop-key : goal.invariant-loop-key
invariant-loop-key l = value_under l.label (pairs_view (drop l.key-index l.pairs)) ≡ value_under l.label (pairs_view l.fn.pairs)
