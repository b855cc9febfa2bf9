use Rattle.std.proofs.Common.{◌≡◌, length}
use Rattle.std.specs.Option.{option_or}
use Rattle.osc_cbor.specs.{value_under, pairs_of}
use Rattle.osc_token.proofs.found.claim_values.Given as goal

-- with the pairs that are left, the values are those of all
abbrev pub invariant-loop-label : goal.invariant-loop-label
invariant-loop-label l = record {
  audience : option_or l.audience (value_under 3 (pairs_of l.pairs)) ≡ value_under 3 (pairs_of l.fn.pairs);
  expires : option_or l.expires (value_under 4 (pairs_of l.pairs)) ≡ value_under 4 (pairs_of l.fn.pairs);
  not_before : option_or l.not_before (value_under 5 (pairs_of l.pairs)) ≡ value_under 5 (pairs_of l.fn.pairs);
  confirmation : option_or l.confirmation (value_under 8 (pairs_of l.pairs)) ≡ value_under 8 (pairs_of l.fn.pairs);
  scope : option_or l.scope (value_under 9 (pairs_of l.pairs)) ≡ value_under 9 (pairs_of l.fn.pairs);
}

abbrev pub decreases-loop-label : goal.decreases-loop-label
decreases-loop-label l = length l.pairs
