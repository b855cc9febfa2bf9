use Rattle.sqlite_store.specs.FileStore.{blamed}
use Rattle.osc_store.specs.{IsNamedBy}
use Rattle.osc_store.proofs.CauseLemmas.{told_why}
use Rattle.osc_store.proofs.WriteLemmas.{named_told}
use Rattle.osc_store.proofs.keeper.carried.Goals as goal

pub returns-in-Err-clause-cause : goal.returns-in-Err-clause-cause
returns-in-Err-clause-cause g c = λ tree keeps clean. rw c.told.ensures (told_why _ _ c.in-Err.error (c.in-Err.ensures.cause tree keeps clean))

pub returns-in-Err-clause-named : goal.returns-in-Err-clause-named
returns-in-Err-clause-named g c = rw c.told.ensures (named_told (blamed c.carry.new.store) c.in-Err.error c.in-Err.ensures.told)
