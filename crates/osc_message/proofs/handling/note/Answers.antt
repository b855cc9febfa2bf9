use Rattle.std.proofs.Common.{subst, sym}
use Rattle.osc_message.specs.{AreShort}
use Rattle.osc_message.proofs.Notes.{with_note_short}
use Rattle.osc_message.proofs.handling.note.Goals as goal

pub returns-in_default-clause-short : goal.returns-in_default-clause-short
returns-in_default-clause-short c = λ reply short.
    subst AreShort (sym c.note.ensures) (with_note_short c.args.now c.args.from c.args.id _ c.args.seen.now reply short)
