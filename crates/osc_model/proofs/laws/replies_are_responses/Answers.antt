use Rattle.osc_model.proofs.Replies.{at_least, at_most}
use Rattle.osc_model.proofs.laws.replies_are_responses.Goals as goal

pub returns : goal.returns
returns c = record { least = at_least; most = at_most }
