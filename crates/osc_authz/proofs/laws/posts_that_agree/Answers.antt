use Rattle.osc_authz.proofs.OneNameLaws.{agreed_posted}
use Rattle.osc_authz.proofs.laws.posts_that_agree.Goals as goal

pub returns : goal.returns
returns g c = λ before after posting post answer posts ok. agreed_posted g.A.Aead.is_sealing before after posting post answer posts ok
