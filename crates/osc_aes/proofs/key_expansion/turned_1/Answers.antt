use Rattle.osc_aes.proofs.KeyLaws.{turned_1_is}
use Rattle.osc_aes.proofs.key_expansion.turned_1.Goals as goal

pub returns : goal.returns
returns c = turned_1_is c.args.key c.fits-key
