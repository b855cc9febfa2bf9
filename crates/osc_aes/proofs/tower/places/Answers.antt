use Rattle.std.proofs.Common.{◌≡◌, ℕ, List, map, bit_xor}
use Rattle.std.proofs.lemmas.Simd.{zip2_of_maps}
use lib.Lanes.{zip2}
use Rattle.osc_aes.specs.Inner.Tower.{looked, upper, lower, both, one, other, first_place, second_place}
use Rattle.osc_aes.specs.declared.tower.TheConstants.{INVERSES, QUOTIENTS}
use Rattle.osc_aes.proofs.Forms.{made_places, looked_at, sum_at, lower_places, upper_places, both_places, one_places, other_places}
use Rattle.osc_aes.proofs.tower.places.Goals as goal

-- the sum of the halves
added : (v u l : List ℕ) → u ≡ map upper v → l ≡ map lower v → zip2 bit_xor u l ≡ map both v
added v u l eu el = zip2_of_maps bit_xor upper lower v eu el

pub look_up-quotient-requires : goal.look_up-quotient-requires
look_up-quotient-requires c = made_places lower c.args.forms c.halves.result.1 c.fits-forms c.halves.ensures.lower lower_places

pub look_up-requires : goal.look_up-requires
look_up-requires c = made_places upper c.args.forms c.halves.result.0 c.fits-forms c.halves.ensures.upper upper_places

pub look_up-requires-2 : goal.look_up-requires-2
look_up-requires-2 c =
    made_places both c.args.forms _ c.fits-forms
    (added c.args.forms c.halves.result.0 c.halves.result.1 c.halves.ensures.upper c.halves.ensures.lower) both_places

pub look_up-requires-3 : goal.look_up-requires-3
look_up-requires-3 c =
    made_places one c.args.forms _ c.fits-forms
    (sum_at INVERSES QUOTIENTS upper lower c.args.forms c.halves.result.0 c.halves.result.1 c.look_up.result c.look_up-quotient.result
    c.look_up.ensures c.look_up-quotient.ensures c.halves.ensures.upper c.halves.ensures.lower)
    one_places

pub look_up-requires-4 : goal.look_up-requires-4
look_up-requires-4 c =
    made_places other c.args.forms _ c.fits-forms
    (sum_at INVERSES QUOTIENTS both lower c.args.forms _ c.halves.result.1 c.look_up-2.result c.look_up-quotient.result
    c.look_up-2.ensures c.look_up-quotient.ensures
    (added c.args.forms c.halves.result.0 c.halves.result.1 c.halves.ensures.upper c.halves.ensures.lower) c.halves.ensures.lower)
    other_places

pub returns-clause-first : goal.returns-clause-first
unfolding first_place
returns-clause-first c =
    let v = c.args.forms in
    let sum = added v c.halves.result.0 c.halves.result.1 c.halves.ensures.upper c.halves.ensures.lower in
    zip2_of_maps bit_xor (λ x. looked INVERSES (one x)) both v
    (looked_at INVERSES one v _ c.look_up-3.result c.look_up-3.ensures
    (sum_at INVERSES QUOTIENTS upper lower v c.halves.result.0 c.halves.result.1 c.look_up.result c.look_up-quotient.result
    c.look_up.ensures c.look_up-quotient.ensures c.halves.ensures.upper c.halves.ensures.lower))
    sum

pub returns-clause-second : goal.returns-clause-second
unfolding second_place
returns-clause-second c =
    let v = c.args.forms in
    let sum = added v c.halves.result.0 c.halves.result.1 c.halves.ensures.upper c.halves.ensures.lower in
    zip2_of_maps bit_xor (λ x. looked INVERSES (other x)) upper v
    (looked_at INVERSES other v _ c.look_up-4.result c.look_up-4.ensures
    (sum_at INVERSES QUOTIENTS both lower v _ c.halves.result.1 c.look_up-2.result c.look_up-quotient.result
    c.look_up-2.ensures c.look_up-quotient.ensures sum c.halves.ensures.lower))
    c.halves.ensures.upper
