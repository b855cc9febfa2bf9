use Rattle.sqlite_store.specs.FileStore.{recovers, view}
use Rattle.osc_store.specs.Keeping.{may_leave_first}
use Rattle.osc_store.proofs.keeper.FileKeeper.mark_file.Goals as goal

pub returns-then-self-gt0-clause-crash : goal.returns-then-self-gt0-clause-crash
returns-then-self-gt0-clause-crash g c = λ tree keeps clean. may_leave_first view recovers c.args.self.now.store tree tree keeps
