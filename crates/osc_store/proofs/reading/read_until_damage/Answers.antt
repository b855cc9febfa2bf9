use Rattle.std.proofs.Common.{List, ℕ, ap₂, refl, subst}
use Rattle.std.specs.Bool.{⊤}
use Rattle.sqlite_wal.specs.Recovery.{Image}
use Rattle.osc_store.specs.{BelongTogether, FindsTree, RefusesPair}
use Rattle.osc_store.proofs.BelongLemmas.{no_damage, pair_told}
use Rattle.osc_store.proofs.ReadLemmas.{left_clean, store_clean}
use Rattle.osc_store.proofs.reading.read_until_damage.Goals as goal

abbrev image : List ℕ → List ℕ → Image
image log db = record { log = log; db = db }

pub returns-in-Ok-open_checked-clause-found : goal.returns-in-Ok-open_checked-clause-found
returns-in-Ok-open_checked-clause-found c =
    subst (λ i. FindsTree i c.in-Ok-open_checked.tree) (ap₂ image c.in-Ok.ensures.bytes c.in-Ok-copied.ensures.bytes)
    (c.in-Ok-open_checked.ensures.found (store_clean _ (λ d. refl) c.in-Ok-open_checked._store))

pub returns-in-Ok-open_checked-clause-belong : goal.returns-in-Ok-open_checked-clause-belong
returns-in-Ok-open_checked-clause-belong c =
    subst BelongTogether (ap₂ image c.in-Ok.ensures.bytes c.in-Ok-copied.ensures.bytes)
    (c.in-Ok-open_checked.ensures.belong (store_clean _ (λ d. refl) c.in-Ok-open_checked._store))

pub returns-in-Err-clause-refused : goal.returns-in-Err-clause-refused
returns-in-Err-clause-refused c =
    subst (λ i. RefusesPair i ⊤ c.in-Err.error) (ap₂ image c.in-Ok.ensures.bytes c.in-Ok-copied.ensures.bytes)
    (pair_told _ _ _ _ _ c.in-Err.error (c.in-Err.ensures.stops (left_clean _ (λ d. refl) c.in-Err._left)).cause)

pub returns-in-Err-clause-kind : goal.returns-in-Err-clause-kind
returns-in-Err-clause-kind c = no_damage _ _ _ _ _ c.in-Err.error (c.in-Err.ensures.stops (left_clean _ (λ d. refl) c.in-Err._left)).cause
