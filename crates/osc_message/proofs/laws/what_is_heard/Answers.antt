use Rattle.osc_message.proofs.Came.{heard_came}
use Rattle.osc_message.proofs.laws.what_is_heard.Goals as goal

pub returns : goal.returns
returns c = heard_came
