use Rattle.osc_aes.proofs.Forms.{uppers, lowers}
use Rattle.osc_aes.proofs.tower.halves.Goals as goal

pub returns-clause-upper : goal.returns-clause-upper
returns-clause-upper c = uppers c.args.lanes c.fits-lanes

pub returns-clause-lower : goal.returns-clause-lower
returns-clause-lower c = lowers c.args.lanes c.fits-lanes
