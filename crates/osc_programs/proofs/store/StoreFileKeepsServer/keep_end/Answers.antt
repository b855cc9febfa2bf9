use Rattle.sqlite_store.specs.FileStore.{view}
use Rattle.osc_store.proofs.CauseLemmas.{on_ok_if}
use Rattle.osc_store.proofs.ViewLemmas.{clean_before}
use Rattle.osc_programs.proofs.store.StoreFileKeepsServer.keep_end.Goals as goal

pub returns-clause-kept : goal.returns-clause-kept
returns-clause-kept g c server held =
    let old = c.args.self.now.keeper.store in
    let new = c.make_whole.new.self.keeper.store in
    on_ok_if c.make_whole.result _ _ (λ clean. c.make_whole.ensures.kept server.tree (held (clean_before (view old) (view new) c.make_whole.ensures.clean clean)) clean)

pub returns-clause-crash : goal.returns-clause-crash
returns-clause-crash g c server held clean =
    let old = c.args.self.now.keeper.store in
    let new = c.make_whole.new.self.keeper.store in
    c.make_whole.ensures.crash server.tree (held (clean_before (view old) (view new) c.make_whole.ensures.clean clean)) clean

pub returns-clause-cause : goal.returns-clause-cause
returns-clause-cause g c server held clean =
    let old = c.args.self.now.keeper.store in
    let new = c.make_whole.new.self.keeper.store in
    c.make_whole.ensures.cause server.tree (held (clean_before (view old) (view new) c.make_whole.ensures.clean clean)) clean

pub returns-clause-trust : goal.returns-clause-trust
returns-clause-trust g c clean = clean_before (view c.args.self.now.keeper.store) (view c.make_whole.new.self.keeper.store) c.make_whole.ensures.clean clean
