use Rattle.std.proofs.Common.{arith}
use Rattle.osc_authz.proofs.LastAnswers.{kept_here, kept_index, place_within}
use Rattle.osc_authz.proofs.table.keep_answer.Goals as goal

pub bounds-table-place : goal.bounds-table-place
bounds-table-place c = place_within c.args.table.now c.args.place c.requires.there.0 c.requires.there.1

pub offset_bounds-table-place : goal.offset_bounds-table-place
offset_bounds-table-place c = omega (arith, place_within c.args.table.now c.args.place c.requires.there.0 c.requires.there.1, c.requires.table.few)

pub returns-clause-kept : goal.returns-clause-kept
returns-clause-kept c =
    rw (c.requires.there.1, c.keep_answer.ensures)
    (kept_here c.args.last c.args.table.now c.args.place c.index-table-place.result c.requires.there.0 c.requires.table c.requires.there.1)

pub returns-clause-index : goal.returns-clause-index
returns-clause-index c =
    rw c.keep_answer.ensures (kept_index c.args.last c.args.table.now c.args.places.now c.args.place c.index-table-place.result c.requires.index)
