use Rattle.osc_cbor.proofs.OneItem.{one_item}
use Rattle.osc_cbor.proofs.laws.one_item.Goals as goal

pub returns : goal.returns
returns c = one_item
