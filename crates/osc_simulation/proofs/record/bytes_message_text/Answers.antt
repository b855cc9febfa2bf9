use Rattle.std.proofs.lemmas.Result.{IfOk-weaker}
use Rattle.osc_simulation.specs.Records.TellsMessage.{of_message}
use Rattle.osc_simulation.proofs.record.bytes_message_text.Goals as goal

pub returns-in-Ok : goal.returns-in-Ok
returns-in-Ok c = IfOk-weaker c.message_text.result _ _ (λ text e. of_message c.in-Ok.message c.in-Ok.ensures.found e) c.message_text.ensures
