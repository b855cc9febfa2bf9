use Rattle.std.proofs.Common.{◌≡◌, length}
use Rattle.std.specs.Option.{option_or}
use Rattle.osc_cbor.specs.{value_under, pairs_of}
use Rattle.osc_authz.proofs.payload.answer_values.Given as goal

-- with the pairs that are left, the values are those of all
abbrev pub invariant-loop-label : goal.invariant-loop-label
invariant-loop-label l = record {
  nonce2 : option_or l.nonce2 (value_under 42 (pairs_of l.pairs)) ≡ value_under 42 (pairs_of l.fn.pairs);
  server_id : option_or l.server_id (value_under 44 (pairs_of l.pairs)) ≡ value_under 44 (pairs_of l.fn.pairs);
}

abbrev pub decreases-loop-label : goal.decreases-loop-label
decreases-loop-label l = length l.pairs
