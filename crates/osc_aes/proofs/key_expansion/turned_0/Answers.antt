use Rattle.osc_aes.proofs.KeyLaws.{turned_0_is}
use Rattle.osc_aes.proofs.key_expansion.turned_0.Goals as goal

pub returns : goal.returns
returns c = turned_0_is c.args.key c.fits-key
