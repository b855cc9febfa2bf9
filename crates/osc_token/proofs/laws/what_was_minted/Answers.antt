use Rattle.std.proofs.Common.{subst}
use Rattle.osc_cbor.specs.{spelling}
use Rattle.osc_token.specs.{ComesTo, algorithm_header, claims_item}
use Rattle.osc_token.proofs.laws.what_was_minted.Goals as goal

pub returns : goal.returns
returns g c = λ key iv ciphertext protected ivs text claims entries now outcome size short sealed lawful scope begun over token comes.
    let minted = c.minted_tokens.ensures key iv (spelling (claims_item claims)) ciphertext size short sealed in
    let same = c.one_token.ensures key _ protected ivs text algorithm_header iv (spelling (claims_item claims)) token minted in
    let own = subst (λ x. ComesTo x claims.audience now outcome) same.2 comes in
    c.one_outcome.ensures (spelling (claims_item claims)) claims.audience now outcome _ own (c.minted_claims.ensures claims entries now lawful scope begun over)
