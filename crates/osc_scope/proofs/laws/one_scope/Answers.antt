use Rattle.std.proofs.Common.{[], refl}
use Rattle.osc_cbor.specs.{array}
use Rattle.osc_scope.specs.{entry_items}
use Rattle.osc_scope.proofs.EntryLemmas.{one_entry_list, one_array}
use Rattle.osc_scope.proofs.laws.one_scope.Goals as goal

pub returns : goal.returns
returns c = λ bytes entries others s t.
    let same = c.one_item.ensures bytes bytes [] [] (array (entry_items entries)) (array (entry_items others)) s.whole.spelled t.whole.spelled refl in
    one_entry_list entries others (one_array (entry_items entries) (entry_items others) same.1)
