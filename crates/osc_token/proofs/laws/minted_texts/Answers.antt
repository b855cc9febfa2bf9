use Rattle.std.proofs.Common.{[], refl}
use Rattle.osc_cbor.specs.{spelling}
use Rattle.osc_token.specs.{claims_item}
use Rattle.osc_token.proofs.MintedTexts.{alone}
use Rattle.osc_token.proofs.SpelledClaims.{claims_spelled}
use Rattle.osc_token.proofs.laws.minted_texts.Goals as goal

pub returns : goal.returns
returns c = λ claims read entries granted audience now fit scope comes.
    let spelled = c.what_is_written.ensures.spells (claims_item claims) (claims_spelled claims fit) in
    let text = spelling (claims_item claims) in
    alone claims entries text (λ d e s t. (c.one_item.ensures text text [] [] d e s t refl).1) c.one_scope.ensures spelled scope audience now read granted comes
