use Rattle.osc_turn.proofs.kept.CutLemmas.{is_cut_so}
use Rattle.osc_turn.proofs.kept.laws.cuts_are_found.Goals as goal

pub returns : goal.returns
returns g c = is_cut_so c.files_hold_one_tree.ensures.files c.starts_go_on.ensures.kept c.starts_go_on.ensures.cut
