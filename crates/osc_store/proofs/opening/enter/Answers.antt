use Rattle.std.proofs.Common.{◌∙◌, sym, subst}
use Rattle.sqlite_pool.specs.Stored.{Recovers, stored_size}
use Rattle.sqlite_wal.specs.PageSize.{IsPageSize}
use Rattle.sqlite_trees.proofs.Doubt.{no_doubt}
use Rattle.sqlite_store.specs.FileStore.{state}
use Rattle.osc_store.proofs.FindLemmas.{surely}
use Rattle.osc_store.proofs.StartLemmas.{from_file, has_table, lists_shown, shows_found}
use Rattle.osc_store.proofs.opening.enter.Goals as goal

pub returns-in-Ok-clause-ready : goal.returns-in-Ok-clause-ready
returns-in-Ok-clause-ready g c clean =
    let e = c.in-Ok.ensures in
    record { is_open = e.ready.is_open (no_doubt _ clean); sound = e.ready.sound (no_doubt _ clean); table = has_table _ (e.schema ∙ c.requires.schema); numbered = e.numbered }

pub returns-in-Ok-clause-lists : goal.returns-in-Ok-clause-lists
returns-in-Ok-clause-lists g c clean = lists_shown c.in-Ok.store clean (c.in-Ok.ensures.schema ∙ c.requires.schema) c.in-Ok.ensures.ready.unaltered

pub returns-in-Ok-clause-reads : goal.returns-in-Ok-clause-reads
returns-in-Ok-clause-reads g c clean at found =
    let e = c.in-Ok.ensures in
    let it = c.in-Ok.store in
    let size = (e.kept clean).size in
    shows_found it at (subst (λ n. IsPageSize (stored_size n)) (sym size) (c.requires.sized (e.honest clean))) clean (e.ready.is_open (no_doubt _ clean)) e.numbered e.ready.unaltered
    (subst (λ n. Recovers n at (state it).committed) (sym size) found)

pub returns-in-Err-clause-cause : goal.returns-in-Err-clause-cause
returns-in-Err-clause-cause g c clean = rw c.of_open.ensures.value (from_file _ _ _ _ _ c.in-Err.error surely (c.in-Err.ensures.cause clean))
