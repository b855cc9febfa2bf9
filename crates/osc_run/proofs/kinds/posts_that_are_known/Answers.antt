use Rattle.osc_run.proofs.ServerDoes.{known}
use Rattle.osc_run.proofs.kinds.posts_that_are_known.Goals as goal

pub returns : goal.returns
returns g c = λ before after posting post answer posts ok.
    known g.A.Aead.is_sealing before after posting post answer posts ok (c.known_posts.ensures.answered before after posting post answer posts ok)
