use Rattle.osc_run.proofs.ServerDoes.{refused}
use Rattle.osc_run.proofs.kinds.posts_that_are_refused.Goals as goal

pub returns : goal.returns
returns g c = refused g.A.Aead.is_sealing
