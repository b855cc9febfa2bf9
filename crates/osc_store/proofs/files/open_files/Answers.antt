use Rattle.std.proofs.Common.{◌≡◌, ◌∙◌, ap₂, subst}
use Rattle.std.proofs.Math.Logic.{∥∥₁_elim}
use Rattle.sqlite_disk.specs.Disk.{MoreFaults}
use Rattle.sqlite_store.specs.Report.{named}
use Rattle.sqlite_wal.specs.Reads.{tally_of_files}
use Rattle.sqlite_trees.specs.declared.error.StoreError.{StoreError}
use Rattle.osc_store.specs.{by_fault, IsStore, IsFullLeft, IsOtherVersion, WhyNotOpened, faults_left, faults_of, image_of, tally_left}
use Rattle.osc_store.proofs.BelongLemmas.{refusal_named, refusal_told, stops_named}
use Rattle.osc_store.proofs.files.open_files.Goals as goal

pub returns-in-Err-clause-cause : goal.returns-in-Err-clause-cause
returns-in-Err-clause-cause g c clean =
    let files = c.args.files in
    let now = c.in-Err.left in
    let kind = c.name_fault.result in
    let is : kind ≡ named (tally_of_files g.D.Disk (files.log, files.db)) (tally_left now) = c.name_fault.ensures.value ∙ ap₂ named c.tally-before.ensures c.tally.ensures in
    rw c.by_fault-error.ensures (subst (λ (k : StoreError). WhyNotOpened (λ (x : StoreError). MoreFaults (faults_of g.D.Disk files) (faults_left now) × (k ≡ x))
    (IsFullLeft now) (IsStore (image_of g.D.Disk files)) (IsOtherVersion (image_of g.D.Disk files)) (by_fault kind c.in-Err.error)) is
    (stops_named (image_of g.D.Disk files) _ _ _ _ c.in-Err.error kind c.name_fault.ensures.kind (c.in-Err.ensures.stops clean).cause))

pub returns-in-Err-clause-unharmed : goal.returns-in-Err-clause-unharmed
returns-in-Err-clause-unharmed g c clean tree leaves left may =
    let image = image_of g.D.Disk c.args.files in
    let stays = g.met.D.Disk.seen_may_stay in
    ∥∥₁_elim (leaves image (stays c.args.files.log, stays c.args.files.db)) squash₁ (λ found. (c.in-Err.ensures.stops clean).goes_on tree found leaves left may)

pub returns-in-Err-clause-refused : goal.returns-in-Err-clause-refused
returns-in-Err-clause-refused g c clean =
    rw c.by_fault-error.ensures (refusal_told (image_of g.D.Disk c.args.files) _ _ _ _ c.in-Err.error c.name_fault.result c.name_fault.ensures.kind (c.in-Err.ensures.stops clean).cause)

pub returns-in-Err-clause-left_alone : goal.returns-in-Err-clause-left_alone
returns-in-Err-clause-left_alone g c clean refusal =
    c.in-Err.ensures.left_alone clean (refusal_named c.in-Err.error c.name_fault.result c.name_fault.ensures.kind (rw c.by_fault-error.ensures at refusal))
