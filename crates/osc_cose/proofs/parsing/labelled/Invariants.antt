use Rattle.std.proofs.Common.{◌≡◌, length}
use Rattle.std.specs.Option.{option_or}
use Rattle.osc_cbor.specs.{value_under, pairs_of}
use Rattle.osc_cose.proofs.parsing.labelled.Given as goal

-- with the pairs that are left, the values are those of all
abbrev pub invariant-loop-label : goal.invariant-loop-label
invariant-loop-label l = record {
  kid : option_or l.kid (value_under 4 (pairs_of l.pairs)) ≡ value_under 4 (pairs_of l.fn.header);
  iv : option_or l.iv (value_under 5 (pairs_of l.pairs)) ≡ value_under 5 (pairs_of l.fn.header);
}

abbrev pub decreases-loop-label : goal.decreases-loop-label
decreases-loop-label l = length l.pairs
