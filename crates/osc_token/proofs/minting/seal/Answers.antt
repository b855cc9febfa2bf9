use Rattle.std.proofs.Common.{◌<◌, length, arith, rules}
use Rattle.osc_token.specs.{most_claims}
use Rattle.osc_token.proofs.MintingLemmas.{text_too_long}
use Rattle.osc_token.proofs.minting.seal.Goals as goal

pub unreachable-requires : goal.unreachable-requires
unreachable-requires g c =
    let long : most_claims < length c.args.text.now = text_too_long (length c.args.text.now) (c.seal0.ensures.too_long (search rules)) in
    omega (arith, long, c.requires)
