use Rattle.osc_token.proofs.TokenLaws.{minted}
use Rattle.osc_token.proofs.laws.minted_tokens.Goals as goal

pub returns : goal.returns
returns g c = λ key iv text ciphertext size short sealed.
    minted c.what_is_written.ensures.spells c.what_is_written-2.ensures g.A.Aead.is_sealing key iv text ciphertext size short sealed
