use Rattle.osc_aes.proofs.Rounds.{round_0}
use Rattle.osc_aes.proofs.cipher.round_to_0.Goals as goal

pub returns : goal.returns
returns c =
    round_0 c.args.state c.args.key c.doubled_substitutes.result.0 c.doubled_substitutes.result.1 c.fits-state c.fits-key
    c.doubled_substitutes.ensures.once c.doubled_substitutes.ensures.doubled
