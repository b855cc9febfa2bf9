use Rattle.osc_run.proofs.ServerDoes.{agreed}
use Rattle.osc_run.proofs.kinds.posts_that_agree.Goals as goal

pub returns : goal.returns
returns g c = λ before after posting post answer size posts ok is_table.
    agreed c.one_more_context.ensures g.A.Aead.is_sealing before after posting post answer size (c.posts_that_agree.ensures before after posting post answer posts ok) is_table
