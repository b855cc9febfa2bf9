use Rattle.osc_run.proofs.Read.{read_is, read_none}
use Rattle.osc_run.proofs.kinds.what_is_read.Goals as goal

pub returns-clause-request : goal.returns-clause-request
returns-clause-request c = read_is c.reading.ensures.plaintext_again

pub returns-clause-none : goal.returns-clause-none
returns-clause-none c = read_none c.reading.ensures.plaintext
