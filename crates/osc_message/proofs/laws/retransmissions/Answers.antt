use Rattle.osc_message.proofs.Schedule.{on_schedule, four_at_most}
use Rattle.osc_message.proofs.Places.{done_is}
use Rattle.osc_message.proofs.laws.retransmissions.Goals as goal

pub returns-clause-ticks : goal.returns-clause-ticks
returns-clause-ticks c = λ message sent ticks went. done_is ticks message sent went

pub returns-clause-schedule : goal.returns-clause-schedule
returns-clause-schedule c = on_schedule

pub returns-clause-most : goal.returns-clause-most
returns-clause-most c = four_at_most
