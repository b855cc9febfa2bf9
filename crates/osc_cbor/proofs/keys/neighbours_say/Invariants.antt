use Rattle.std.proofs.Common.{drop}
use Rattle.osc_cbor.specs.Inner.Notes.{pieces}
use Rattle.osc_cbor.proofs.RowLaws.{Compared}
use Rattle.osc_cbor.proofs.keys.neighbours_say.Given as goal

abbrev pub invariant-loop-key : goal.invariant-loop-key
invariant-loop-key l = Compared l.last (pieces l.spelled (drop l.key-index l.others)) (pieces l.spelled l.keys)
