use Rattle.osc_aes.proofs.KeyLaws.{last_key_is}
use Rattle.osc_aes.proofs.key_expansion.last_key.Goals as goal

pub returns : goal.returns
returns c = last_key_is c.args.key c.bytes.result c.fits-key.0 c.bytes.ensures
