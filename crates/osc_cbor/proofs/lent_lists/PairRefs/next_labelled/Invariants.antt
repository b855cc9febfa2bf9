use Rattle.std.proofs.Common.{◌≤◌, length}
use Rattle.osc_cbor.proofs.LentLaws.{HaveSame}
use Rattle.osc_cbor.proofs.lent_lists.PairRefs.next_labelled.Given as goal

abbrev pub invariant-loop-key : goal.invariant-loop-key
invariant-loop-key l =
    (goal.iterator-loop-key).can_next l.self × (goal.iterator-loop-key).is_finite l.self × HaveSame l.least l.most l.fn.self l.self × (length l.self ≤ length l.fn.self)
