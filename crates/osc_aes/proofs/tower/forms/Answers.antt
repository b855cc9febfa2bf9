use Rattle.std.proofs.Common.{◌≡◌, ℕ, List, map, length, ap, ◌∙◌}
use Rattle.std.proofs.lemmas.List.{map-id, length-map}
use Rattle.std.proofs.lemmas.Simd.{map-map}
use Rattle.osc_aes.specs.Inner.Tower.{upper, lower, form_of, byte_of}
use Rattle.osc_aes.specs.Inner.States.{state_in}
use Rattle.osc_aes.specs.declared.tower.TheConstants.{FORM_LOWER, FORM_UPPER}
use Rattle.osc_aes.proofs.Lanes.{IsBlock, map_same}
use Rattle.osc_aes.proofs.Forms.{made_places, sum_at, lower_places, upper_places}
use Rattle.osc_aes.proofs.FormLaws.{byte_of-form_of}
use Rattle.osc_aes.proofs.KeyLaws.{state_in-0}
use Rattle.osc_aes.proofs.tower.forms.Goals as goal

pub look_up-requires : goal.look_up-requires
look_up-requires c = made_places lower c.args.bytes c.halves.result.1 c.fits-bytes c.halves.ensures.lower lower_places

pub look_up-requires-2 : goal.look_up-requires-2
look_up-requires-2 c = made_places upper c.args.bytes c.halves.result.0 c.fits-bytes c.halves.ensures.upper upper_places

back : (v r : List ℕ) → IsBlock v → r ≡ map form_of v → map byte_of r ≡ v
back v r h e = ap (map byte_of) e ∙ map-map byte_of form_of v ∙ map_same (λ b. byte_of (form_of b)) (λ b. b) v h.1 byte_of-form_of ∙ map-id v

back_in : (v r : List ℕ) → IsBlock v → r ≡ map form_of v → state_in 0 r ≡ v
back_in v r h e = state_in-0 r (ap length e ∙ length-map v form_of ∙ h.0) ∙ back v r h e

pub returns-clause-bytes : goal.returns-clause-bytes
unfolding form_of
returns-clause-bytes c =
    back c.args.bytes _ c.fits-bytes
    (sum_at FORM_LOWER FORM_UPPER lower upper c.args.bytes c.halves.result.1 c.halves.result.0 c.look_up.result c.look_up-2.result
    c.look_up.ensures c.look_up-2.ensures c.halves.ensures.lower c.halves.ensures.upper)

pub returns-clause-state : goal.returns-clause-state
unfolding form_of
returns-clause-state c =
    back_in c.args.bytes _ c.fits-bytes
    (sum_at FORM_LOWER FORM_UPPER lower upper c.args.bytes c.halves.result.1 c.halves.result.0 c.look_up.result c.look_up-2.result
    c.look_up.ensures c.look_up-2.ensures c.halves.ensures.lower c.halves.ensures.upper)
