use Rattle.std.proofs.lemmas.List.Sorted.{IsPermutation-trans}
use Rattle.osc_cbor.proofs.keys.sort.Goals as goal

pub returns : goal.returns
returns c = IsPermutation-trans _ _ _ c.sort_unstable_by_key.ensures.permutation c.sort_neighbours.ensures
