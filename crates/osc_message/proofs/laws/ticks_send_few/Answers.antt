use Rattle.osc_message.proofs.Few.{few_are_sent}
use Rattle.osc_message.proofs.laws.ticks_send_few.Goals as goal

pub returns : goal.returns
returns c = few_are_sent
