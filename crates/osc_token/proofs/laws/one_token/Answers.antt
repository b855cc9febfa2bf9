use Rattle.osc_token.proofs.TokenLaws.{one_token}
use Rattle.osc_token.proofs.laws.one_token.Goals as goal

pub returns : goal.returns
returns g c = λ key bytes protected iv text others ivs other t u.
    one_token g.A.Aead.is_sealing c.one_item.ensures g.met.A.Aead.one_text key bytes protected iv text others ivs other t u
