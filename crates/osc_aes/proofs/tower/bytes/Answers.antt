use Rattle.osc_aes.specs.Inner.Tower.{upper, lower, byte_of}
use Rattle.osc_aes.specs.declared.tower.TheConstants.{BYTE_LOWER, BYTE_UPPER}
use Rattle.osc_aes.proofs.Forms.{made_places, sum_at, lower_places, upper_places}
use Rattle.osc_aes.proofs.tower.bytes.Goals as goal

pub look_up-requires : goal.look_up-requires
look_up-requires c = made_places lower c.args.forms c.halves.result.1 c.fits-forms c.halves.ensures.lower lower_places

pub look_up-requires-2 : goal.look_up-requires-2
look_up-requires-2 c = made_places upper c.args.forms c.halves.result.0 c.fits-forms c.halves.ensures.upper upper_places

pub returns : goal.returns
unfolding byte_of
returns c =
    sum_at BYTE_LOWER BYTE_UPPER lower upper c.args.forms c.halves.result.1 c.halves.result.0 c.look_up.result c.look_up-2.result
    c.look_up.ensures c.look_up-2.ensures c.halves.ensures.lower c.halves.ensures.upper
