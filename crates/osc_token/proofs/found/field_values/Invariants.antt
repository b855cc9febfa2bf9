use Rattle.std.proofs.Common.{◌≡◌, length}
use Rattle.std.specs.Option.{option_or}
use Rattle.osc_cbor.specs.{value_under, pairs_of}
use Rattle.osc_token.proofs.found.field_values.Given as goal

-- with the pairs that are left, the values are those of all
abbrev pub invariant-loop-label : goal.invariant-loop-label
invariant-loop-label l = record {
  id : option_or l.id (value_under 0 (pairs_of l.pairs)) ≡ value_under 0 (pairs_of l.fn.pairs);
  version : option_or l.version (value_under 1 (pairs_of l.pairs)) ≡ value_under 1 (pairs_of l.fn.pairs);
  secret : option_or l.secret (value_under 2 (pairs_of l.pairs)) ≡ value_under 2 (pairs_of l.fn.pairs);
  hkdf : option_or l.hkdf (value_under 3 (pairs_of l.pairs)) ≡ value_under 3 (pairs_of l.fn.pairs);
  alg : option_or l.alg (value_under 4 (pairs_of l.pairs)) ≡ value_under 4 (pairs_of l.fn.pairs);
  salt : option_or l.salt (value_under 5 (pairs_of l.pairs)) ≡ value_under 5 (pairs_of l.fn.pairs);
  id_context : option_or l.id_context (value_under 6 (pairs_of l.pairs)) ≡ value_under 6 (pairs_of l.fn.pairs);
}

abbrev pub decreases-loop-label : goal.decreases-loop-label
decreases-loop-label l = length l.pairs
