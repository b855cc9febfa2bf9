use Rattle.osc_message.proofs.due.due_of.Goals as goal

pub returns-in-None : goal.returns-in-None
returns-in-None c = λ all earlier place. rw c.in-None.is (c.due_of_waiting.ensures.due all earlier (place c.in-None.is))
