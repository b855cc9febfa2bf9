use Rattle.osc_aes.specs.Inner.Tower.{first_place, second_place, substitute, doubled}
use Rattle.osc_aes.specs.declared.tower.TheConstants.{SUBSTITUTE_FIRST, SUBSTITUTE_SECOND, DOUBLED_FIRST, DOUBLED_SECOND}
use Rattle.osc_aes.proofs.Forms.{made_places, sum_at, first_places, second_places}
use Rattle.osc_aes.proofs.tower.doubled_substitutes.Goals as goal

pub look_up-requires : goal.look_up-requires
look_up-requires c = made_places first_place c.args.forms c.places.result.0 c.fits-forms c.places.ensures.first first_places

pub look_up-requires-2 : goal.look_up-requires-2
look_up-requires-2 c = made_places second_place c.args.forms c.places.result.1 c.fits-forms c.places.ensures.second second_places

pub look_up-requires-3 : goal.look_up-requires-3
look_up-requires-3 c = made_places first_place c.args.forms c.places.result.0 c.fits-forms c.places.ensures.first first_places

pub look_up-requires-4 : goal.look_up-requires-4
look_up-requires-4 c = made_places second_place c.args.forms c.places.result.1 c.fits-forms c.places.ensures.second second_places

pub returns-clause-once : goal.returns-clause-once
unfolding substitute
returns-clause-once c =
    sum_at SUBSTITUTE_FIRST SUBSTITUTE_SECOND first_place second_place c.args.forms c.places.result.0 c.places.result.1 c.look_up.result
    c.look_up-2.result c.look_up.ensures c.look_up-2.ensures c.places.ensures.first c.places.ensures.second

pub returns-clause-doubled : goal.returns-clause-doubled
unfolding doubled
returns-clause-doubled c =
    sum_at DOUBLED_FIRST DOUBLED_SECOND first_place second_place c.args.forms c.places.result.0 c.places.result.1 c.look_up-3.result
    c.look_up-4.result c.look_up-3.ensures c.look_up-4.ensures c.places.ensures.first c.places.ensures.second
