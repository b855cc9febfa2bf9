use Rattle.osc_aes.proofs.KeyLaws.{last_round_is}
use Rattle.osc_aes.proofs.cipher.last_round.Goals as goal

pub returns : goal.returns
returns c = last_round_is c.args.state c.args.key c.plain_substitutes.result c.fits-state c.fits-key c.plain_substitutes.ensures
