use Rattle.osc_aes.proofs.KeyLaws.{turned_3_is}
use Rattle.osc_aes.proofs.key_expansion.turned_3.Goals as goal

pub returns : goal.returns
returns c = turned_3_is c.args.key c.fits-key
