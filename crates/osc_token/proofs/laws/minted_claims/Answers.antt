use Rattle.osc_token.proofs.MintedLemmas.{come_to_themselves}
use Rattle.osc_token.proofs.laws.minted_claims.Goals as goal

pub returns : goal.returns
returns c = come_to_themselves c.what_is_written.ensures.spells
