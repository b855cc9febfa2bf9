use Rattle.std.proofs.Common.{arith}
use Rattle.osc_authz.specs.Inner.Marks.{is_marked}
use Rattle.osc_authz.specs.Inner.Revoking.{is_revoked_at}
use Rattle.osc_authz.proofs.LifeLemmas.{set_more}
use Rattle.osc_authz.proofs.revoked_marks.set_marks.Goals as goal

pub loop-entry-preserved : goal.loop-entry-preserved
loop-entry-preserved c = λ byte.
    set_more (is_revoked_at c.args.path.now) c.args.mark c.args.table.now c.loop-entry.entry-index c.entry-item.result byte
    (is_marked c.loop-entry.marks byte) (is_marked c.set_entry.new.marks byte) _ (omega arith) c.entry-item.is
    (c.set_entry.ensures byte) (c.loop-entry.invariant byte)
