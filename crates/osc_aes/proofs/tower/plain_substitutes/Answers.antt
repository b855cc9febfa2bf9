use Rattle.osc_aes.specs.Inner.Tower.{first_place, second_place, plain_substitute}
use Rattle.osc_aes.specs.declared.tower.TheConstants.{PLAIN_FIRST, PLAIN_SECOND}
use Rattle.osc_aes.proofs.Forms.{made_places, sum_at, first_places, second_places}
use Rattle.osc_aes.proofs.tower.plain_substitutes.Goals as goal

pub look_up-requires : goal.look_up-requires
look_up-requires c = made_places first_place c.args.forms c.places.result.0 c.fits-forms c.places.ensures.first first_places

pub look_up-requires-2 : goal.look_up-requires-2
look_up-requires-2 c = made_places second_place c.args.forms c.places.result.1 c.fits-forms c.places.ensures.second second_places

pub returns : goal.returns
unfolding plain_substitute
returns c =
    sum_at PLAIN_FIRST PLAIN_SECOND first_place second_place c.args.forms c.places.result.0 c.places.result.1 c.look_up.result c.look_up-2.result
    c.look_up.ensures c.look_up-2.ensures c.places.ensures.first c.places.ensures.second
