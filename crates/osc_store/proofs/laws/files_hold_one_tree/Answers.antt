use Rattle.osc_store.proofs.LoadLemmas.{one_tree}
use Rattle.osc_store.proofs.StartLemmas.{found_once}
use Rattle.osc_store.proofs.laws.files_hold_one_tree.Goals as goal

pub returns : goal.returns
returns c = record { rows = one_tree; files = found_once }
