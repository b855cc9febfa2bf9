use Rattle.osc_aes.proofs.KeyLaws.{turned_2_is}
use Rattle.osc_aes.proofs.key_expansion.turned_2.Goals as goal

pub returns : goal.returns
returns c = turned_2_is c.args.key c.fits-key
