use Rattle.std.proofs.Common.{not}
use Rattle.osc_message.specs.{is_named}
use Rattle.osc_message.proofs.Limits.{limits_filter, limits_paced, limits_push, limits_ticked, slowed_more}
use Rattle.osc_message.proofs.laws.within_limits.Goals as goal

pub returns-clause-sent : goal.returns-clause-sent
returns-clause-sent c = limits_push

pub returns-clause-acknowledged : goal.returns-clause-acknowledged
returns-clause-acknowledged c = λ pace peer id all. limits_filter (λ message. not (is_named peer id message)) pace all

pub returns-clause-ticked : goal.returns-clause-ticked
returns-clause-ticked c = limits_ticked

pub returns-clause-paced : goal.returns-clause-paced
returns-clause-paced c = limits_paced

pub returns-clause-slowed : goal.returns-clause-slowed
returns-clause-slowed c = slowed_more
