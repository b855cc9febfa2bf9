use Rattle.osc_options.proofs.SplitLaws.{message_again}
use Rattle.osc_options.proofs.laws.merging_what_was_split.Goals as goal

pub returns : goal.returns
returns c = message_again c.fewer_options.ensures.options
