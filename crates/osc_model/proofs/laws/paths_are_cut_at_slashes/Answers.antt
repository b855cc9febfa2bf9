use Rattle.osc_model.proofs.Segments.{segments_again}
use Rattle.osc_model.proofs.laws.paths_are_cut_at_slashes.Goals as goal

pub returns : goal.returns
returns c = segments_again
