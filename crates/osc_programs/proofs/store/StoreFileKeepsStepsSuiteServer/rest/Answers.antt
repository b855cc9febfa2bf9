use Rattle.std.proofs.Common.{ap, ◌≡◌}
use Rattle.sqlite_store.specs.FileStore.{recovers, view}
use Rattle.osc_store.proofs.CauseLemmas.{on_ok_if}
use Rattle.osc_store.proofs.ViewLemmas.{clean_before}
use Rattle.osc_store.specs.Keeping.{may_leave_first}
use Rattle.osc_programs.proofs.store.StoreFileKeepsStepsSuiteServer.rest.Goals as goal

pub returns-then-is_idle-clause-kept : goal.returns-then-is_idle-clause-kept
returns-then-is_idle-clause-kept g c node held =
    let old = c.args.self.now.keeper.store in
    let new = c.make_whole.new.self.keeper.store in
    on_ok_if c.make_whole.result _ _ (λ clean. c.make_whole.ensures.kept node.tree (held (clean_before (view old) (view new) c.make_whole.ensures.clean clean)) clean)

pub returns-then-is_idle-clause-crash : goal.returns-then-is_idle-clause-crash
returns-then-is_idle-clause-crash g c node held clean =
    let old = c.args.self.now.keeper.store in
    let new = c.make_whole.new.self.keeper.store in
    c.make_whole.ensures.crash node.tree (held (clean_before (view old) (view new) c.make_whole.ensures.clean clean)) clean

pub returns-then-is_idle-clause-cause : goal.returns-then-is_idle-clause-cause
returns-then-is_idle-clause-cause g c node held clean =
    let old = c.args.self.now.keeper.store in
    let new = c.make_whole.new.self.keeper.store in
    c.make_whole.ensures.cause node.tree (held (clean_before (view old) (view new) c.make_whole.ensures.clean clean)) clean

pub returns-then-is_idle-clause-trust : goal.returns-then-is_idle-clause-trust
returns-then-is_idle-clause-trust g c clean = clean_before (view c.args.self.now.keeper.store) (view c.make_whole.new.self.keeper.store) c.make_whole.ensures.clean clean

pub returns-else-is_idle-clause-crash : goal.returns-else-is_idle-clause-crash
returns-else-is_idle-clause-crash g c node held clean = may_leave_first view recovers c.args.self.now.keeper.store node.tree node.tree (held clean)
