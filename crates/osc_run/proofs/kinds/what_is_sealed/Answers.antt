use Rattle.osc_run.proofs.Read.{sealed_reply}
use Rattle.osc_run.proofs.kinds.what_is_sealed.Goals as goal

pub returns : goal.returns
returns c = sealed_reply c.a_written_reply.ensures.plaintext
