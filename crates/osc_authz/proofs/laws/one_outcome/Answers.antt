use Rattle.osc_authz.proofs.ExchangeLemmas.{one_post}
use Rattle.osc_authz.proofs.OutcomeLemmas.{posts_once}
use Rattle.osc_authz.proofs.laws.one_outcome.Goals as goal

pub returns : goal.returns
returns g c = λ before after afters posting post posts p q.
    posts_once g.A.Aead.is_sealing before posting (one_post c.one_item.ensures) c.one_token.ensures c.one_outcome.ensures post posts after afters p q
