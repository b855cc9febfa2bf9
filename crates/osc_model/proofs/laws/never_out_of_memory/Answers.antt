use Rattle.osc_model.proofs.Replies.{never_out_of_memory}
use Rattle.osc_model.proofs.laws.never_out_of_memory.Goals as goal

pub returns : goal.returns
returns c = never_out_of_memory
