use Rattle.std.proofs.Common.{◌≡◌, ◌∙◌, ◌∷◌, [], ℕ, Bool, cond, List, inl, inr, sym, ap, ap₂, subst}
use Rattle.std.specs.Bool.{⊤}
use Rattle.sqlite_disk.specs.Events.{Event, replay, settled}
use Rattle.sqlite_disk.specs.History.{MayLeave}
use Rattle.sqlite_wal.specs.Recovery.{Image}
use Rattle.osc_store.specs.{BelongTogether, IsDamagedLog, FindsTree, IsStore, IsUnmade, Fault, IsFullLeft, IsOtherVersion, Refuses, WhyNotOpened}
use Rattle.osc_store.proofs.path.open.Goals as goal

abbrev image : List ℕ → List ℕ → Image
image log db = record { log = log; db = db }

abbrev seen : List ℕ → List ℕ → Bool → List Event → List ℕ
seen log db is_log history = (replay (cond is_log log db) history).seen

-- what was only settled is all that a crash leaves
only_start : (mixes : Bool) (start : List ℕ) (key : ℕ) (history : List Event) (c : List ℕ) → history ≡ settled key ∷ []
    → MayLeave mixes (replay start history).seen (replay start history).synced (replay start history).steps c → c ≡ start
only_start mixes start key history c is may =
    go (subst (λ h. MayLeave mixes (replay start h).seen (replay start h).synced (replay start h).steps c) is may)
  where
    go : MayLeave mixes start start [] c → c ≡ start
    go (inl e) = e
    go (inr e) = e

pub returns-in-Ok-open_files-clause-found : goal.returns-in-Ok-open_files-clause-found
returns-in-Ok-open_files-clause-found g c clean =
    let (log, db) = c.in-Ok-open_pair.ensures.fresh in
    let found = c.in-Ok-open_files.ensures.found clean in
    let same = ap₂ image (ap₂ (seen g.S.Start.log g.S.Start.db) log.0 log.1) (ap₂ (seen g.S.Start.log g.S.Start.db) db.0 db.1) in
    subst (λ i. FindsTree i c.in-Ok-open_files.opened.1) same found

pub returns-in-Ok-open_files-clause-sums : goal.returns-in-Ok-open_files-clause-sums
returns-in-Ok-open_files-clause-sums g c clean unmade =
    let (log, db) = c.in-Ok-open_pair.ensures.fresh in
    let same = ap₂ image (ap₂ (seen g.S.Start.log g.S.Start.db) log.0 log.1) (ap₂ (seen g.S.Start.log g.S.Start.db) db.0 db.1) in
    c.in-Ok-open_files.ensures.sums clean (subst IsUnmade (sym same) unmade)

pub returns-after-is_left-clause-cause : goal.returns-after-is_left-clause-cause
returns-after-is_left-clause-cause g c =
    let (log, db) = c.in-Ok-open_pair.ensures.fresh in
    let files = c.in-Ok-open_pair.files in
    let left = c.in-Err-open_files.left in
    let same = ap₂ image (ap₂ (seen g.S.Start.log g.S.Start.db) log.0 log.1) (ap₂ (seen g.S.Start.log g.S.Start.db) db.0 db.1) in
    (files, log, db, λ clean. subst (λ i. WhyNotOpened (Fault files left) (IsFullLeft left) (IsStore i) (IsOtherVersion i) c.in-Err-open_files.error) same (c.in-Err-open_files.ensures.cause clean))

pub returns-after-is_left-clause-unharmed : goal.returns-after-is_left-clause-unharmed
returns-after-is_left-clause-unharmed g c clean tree found =
    let (log, db) = c.in-Ok-open_pair.ensures.fresh in
    let files = c.in-Ok-open_pair.files in
    let start = λ (is_log : Bool). cond is_log g.S.Start.log g.S.Start.db in
    c.in-Err-open_files.ensures.unharmed clean tree (λ at may.
    let of_log : at.log ≡ g.S.Start.log = only_start g.S.Start.is_mixing (start files.log.is_log) files.log.key files.log.calls.log.events at.log log.1 may.0 ∙ ap start log.0 in
    let of_db : at.db ≡ g.S.Start.db = only_start g.S.Start.is_mixing (start files.db.is_log) files.db.key files.db.calls.log.events at.db db.1 may.1 ∙ ap start db.0 in
    ∣ subst (λ i. FindsTree i tree) (sym (ap₂ image of_log of_db)) found ∣₁)

pub returns-in-Ok-open_files-clause-belong : goal.returns-in-Ok-open_files-clause-belong
returns-in-Ok-open_files-clause-belong g c clean =
    let (log, db) = c.in-Ok-open_pair.ensures.fresh in
    let same = ap₂ image (ap₂ (seen g.S.Start.log g.S.Start.db) log.0 log.1) (ap₂ (seen g.S.Start.log g.S.Start.db) db.0 db.1) in
    subst BelongTogether same (c.in-Ok-open_files.ensures.belong clean)

pub returns-in-Ok-open_files-clause-intact : goal.returns-in-Ok-open_files-clause-intact
returns-in-Ok-open_files-clause-intact g c clean =
    let log = c.in-Ok-open_pair.ensures.fresh.0 in
    subst (λ (l : List ℕ). ¬ IsDamagedLog l) (ap₂ (seen g.S.Start.log g.S.Start.db) log.0 log.1) (c.in-Ok-open_files.ensures.intact clean)

pub returns-after-is_left-clause-refused : goal.returns-after-is_left-clause-refused
returns-after-is_left-clause-refused g c clean =
    let (log, db) = c.in-Ok-open_pair.ensures.fresh in
    let same = ap₂ image (ap₂ (seen g.S.Start.log g.S.Start.db) log.0 log.1) (ap₂ (seen g.S.Start.log g.S.Start.db) db.0 db.1) in
    subst (λ i. Refuses i ⊤ c.in-Err-open_files.error) same (c.in-Err-open_files.ensures.refused clean)
