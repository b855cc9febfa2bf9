use Rattle.std.proofs.Common.{arith}
use Rattle.osc_authz.proofs.PlaceLemmas.{no_place}
use Rattle.osc_authz.proofs.places.place_of_id.Goals as goal

pub returns-in_default : goal.returns-in_default
returns-in_default c = no_place c.args.id.now c.args.table.now c.requires.table (λ one. absurd (omega (arith, one, c.in_default.len_below)))

pub returns-in_default-2 : goal.returns-in_default-2
returns-in_default-2 c = no_place c.args.id.now c.args.table.now c.requires.table (λ one. absurd (omega (arith, one, c.in_default.len_at_least)))
