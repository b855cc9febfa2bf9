use Rattle.osc_aes.proofs.KeyLaws.{first_of}
use Rattle.osc_aes.proofs.cipher.first_state.Goals as goal

pub returns : goal.returns
returns c = first_of c.args.block c.args.keys.now.key _ c.fits-block.0 c.requires.whole c.forms.ensures.state
