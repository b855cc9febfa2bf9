use Rattle.std.proofs.Common.{List, ℕ, ap₂, refl, subst}
use Rattle.std.specs.Bool.{⊤}
use Rattle.sqlite_wal.specs.Recovery.{Image}
use Rattle.osc_store.specs.{BelongTogether, FindsTree, IsDamagedLog, Refuses}
use Rattle.osc_store.proofs.ReadLemmas.{left_clean, store_clean}
use Rattle.osc_store.proofs.reading.read_store.Goals as goal

abbrev image : List ℕ → List ℕ → Image
image log db = record { log = log; db = db }

pub returns-in-Ok-open_files-clause-found : goal.returns-in-Ok-open_files-clause-found
returns-in-Ok-open_files-clause-found c =
    subst (λ i. FindsTree i c.in-Ok-open_files.tree) (ap₂ image c.in-Ok.ensures.bytes c.in-Ok-copied.ensures.bytes)
    (c.in-Ok-open_files.ensures.found (store_clean _ (λ d. refl) c.in-Ok-open_files._store))

pub returns-in-Ok-open_files-clause-belong : goal.returns-in-Ok-open_files-clause-belong
returns-in-Ok-open_files-clause-belong c =
    subst BelongTogether (ap₂ image c.in-Ok.ensures.bytes c.in-Ok-copied.ensures.bytes)
    (c.in-Ok-open_files.ensures.belong (store_clean _ (λ d. refl) c.in-Ok-open_files._store))

pub returns-in-Err-clause-refused : goal.returns-in-Err-clause-refused
returns-in-Err-clause-refused c =
    subst (λ i. Refuses i ⊤ c.in-Err.error) (ap₂ image c.in-Ok.ensures.bytes c.in-Ok-copied.ensures.bytes)
    (c.in-Err.ensures.refused (left_clean _ (λ d. refl) c.in-Err._left))

pub returns-in-Ok-open_files-clause-intact : goal.returns-in-Ok-open_files-clause-intact
returns-in-Ok-open_files-clause-intact c =
    subst (λ (l : List ℕ). ¬ IsDamagedLog l) c.in-Ok.ensures.bytes (c.in-Ok-open_files.ensures.intact (store_clean _ (λ d. refl) c.in-Ok-open_files._store))
