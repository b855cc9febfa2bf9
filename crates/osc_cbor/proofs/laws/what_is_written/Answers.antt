use Rattle.osc_cbor.proofs.OneItem.{spells, has}
use Rattle.osc_cbor.proofs.laws.what_is_written.Goals as goal

pub returns-clause-spells : goal.returns-clause-spells
returns-clause-spells c = spells

pub returns-clause-has : goal.returns-clause-has
returns-clause-has c = has
