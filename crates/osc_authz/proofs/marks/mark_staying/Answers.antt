use Rattle.std.proofs.Common.{arith}
use Rattle.osc_authz.specs.Inner.Lives.{holds_live_by}
use Rattle.osc_authz.specs.Inner.Marks.{is_marked}
use Rattle.osc_authz.proofs.MarkLemmas.{marked_more}
use Rattle.osc_authz.proofs.marks.mark_staying.Goals as goal

pub loop-entry-preserved : goal.loop-entry-preserved
loop-entry-preserved c = λ byte small.
    marked_more (holds_live_by c.args.now c.args.revoked.now) c.args.token.now c.args.table.now c.loop-entry.entry-index c.entry-item.result byte
    (is_marked c.loop-entry.marks byte) (is_marked c.mark_entry.new.marks byte) _ (omega arith) c.entry-item.is
    (c.mark_entry.ensures byte small) (c.loop-entry.invariant byte small)
