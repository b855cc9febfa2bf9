use Rattle.osc_options.proofs.ReplyAgainLaws.{reply_inside, reply_lawful, reply_outside}
use Rattle.osc_options.proofs.laws.a_written_reply.Goals as goal

pub returns-clause-plaintext : goal.returns-clause-plaintext
returns-clause-plaintext c = reply_inside

pub returns-clause-outside : goal.returns-clause-outside
returns-clause-outside c = reply_outside

pub returns-clause-spelled : goal.returns-clause-spelled
returns-clause-spelled c = reply_lawful
