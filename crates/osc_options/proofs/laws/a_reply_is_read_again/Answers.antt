use Rattle.osc_options.proofs.ReplyAgainLaws.{reply_again}
use Rattle.osc_options.proofs.laws.a_reply_is_read_again.Goals as goal

pub returns : goal.returns
returns c = reply_again
