use Rattle.std.proofs.Common.{◌≡◌, length}
use Rattle.std.specs.Option.{option_or}
use Rattle.osc_cbor.specs.{value_under, pairs_of}
use Rattle.osc_authz.proofs.payload.post_values.Given as goal

-- with the pairs that are left, the values are those of all
abbrev pub invariant-loop-label : goal.invariant-loop-label
invariant-loop-label l = record {
  token : option_or l.token (value_under 1 (pairs_of l.pairs)) ≡ value_under 1 (pairs_of l.fn.pairs);
  nonce1 : option_or l.nonce1 (value_under 40 (pairs_of l.pairs)) ≡ value_under 40 (pairs_of l.fn.pairs);
  client_id : option_or l.client_id (value_under 43 (pairs_of l.pairs)) ≡ value_under 43 (pairs_of l.fn.pairs);
}

abbrev pub decreases-loop-label : goal.decreases-loop-label
decreases-loop-label l = length l.pairs
