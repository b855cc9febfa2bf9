use Rattle.std.proofs.Common.{subst, sym}
use Rattle.sqlite_store.specs.FileStore.{recovers, view}
use Rattle.osc_store.specs.{Keeps}
use Rattle.osc_programs.proofs.store.HostRuntimeStores.open_store.Goals as goal

pub returns-in_ok-kept-in-Any-clause-kept : goal.returns-in_ok-kept-in-Any-clause-kept
returns-in_ok-kept-in-Any-clause-kept c server same clean =
    subst (Keeps view recovers c.in_ok-kept-in-Any.kept.keeper.store) (sym same) (c.in_ok-kept-in-Any.ensures.opened.opened.kept clean)

pub returns-in_ok-kept-in-WholeSectors-clause-kept : goal.returns-in_ok-kept-in-WholeSectors-clause-kept
returns-in_ok-kept-in-WholeSectors-clause-kept c server same clean =
    subst (Keeps view recovers c.in_ok-kept-in-WholeSectors.kept.keeper.store) (sym same) (c.in_ok-kept-in-WholeSectors.ensures.opened.opened.kept clean)
