use Rattle.std.proofs.Common.{refl}
use Rattle.osc_words.proofs.Waiting.{seconds_refused}
use Rattle.osc_words.proofs.context_words.patience.Goals as goal

pub returns-in_default-timeout : goal.returns-in_default-timeout
returns-in_default-timeout c = (refl, seconds_refused c.in-Some.text.now _ c.in-Some.ensures c.in_default-timeout.ensures)
