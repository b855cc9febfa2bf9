use Rattle.std.proofs.Common.{◌≡◌, ◌≢◌, ◌⊎◌, ◌<◌, ◌∙◌, ℕ, List, ap, ap₂, arith, length, slice_index, subst, sym, refl}
use Rattle.sqlite_wal.specs.Files as log_files
use Rattle.sqlite_wal.specs.Format.{be32}
use Rattle.sqlite_wal.specs.PageSize.{bytes_of, size_in_file, Names}
use Rattle.sqlite_wal.specs.Reads.{IsClean}
use Rattle.sqlite_wal.specs.Recovery.{AreFramesOf, Image, IsIgnored, Replays}
use Rattle.sqlite_wal.proofs.CleanLemmas.{both_clean}
use Rattle.osc_store.specs.{NamesSize, image_of}
use Rattle.osc_store.proofs.FindLemmas.{fails_wider, more_faults, same_image, surely}
use Rattle.osc_store.proofs.LogLemmas.{gives_none, none_named}
use Rattle.osc_store.proofs.logged.logged_version.Goals as goal

abbrev image : List ℕ → List ℕ → Image
image log db = record { log = log; db = db }

pub returns-in_default-found-clause-none : goal.returns-in_default-found-clause-none
returns-in_default-found-clause-none g c clean none version =
    none_named (g.D.Disk.seen c.args.files.now.log) c.in-Ok.found version (c.in-Ok.ensures.by_log clean) c.in_default-found.is

pub returns-in-Err-clause-cause : goal.returns-in-Err-clause-cause
returns-in-Err-clause-cause g c later =
    let start = image_of g.D.Disk c.args.files.now in
    let probe = c.probe_page_size.ensures in
    let read = c.pages_of_frames.ensures in
    let found = c.in-Ok.found in
    let size = c.in-Some.size in
    let clean = both_clean _ _ _ _ read.log.clean (subst (IsClean g.D.Disk) read.db) later in
    let by_log : ¬ IsIgnored start.log → Names found (be32 start.log 8) = c.in-Ok.ensures.by_log clean in
    let by_file : IsIgnored start.log → Names found (size_in_file start.db) = c.in-Ok.ensures.by_file clean in
    let named : NamesSize start (bytes_of size) = (λ signed. (rw c.in-Some.is at (by_log signed)).1, λ ignored. (rw c.in-Some.is at (by_file ignored)).1) in
    let looked : image_of g.D.Disk c.probe_page_size.new.files ≡ start = same_image probe.log probe.db in
    let after : image_of g.D.Disk c.pages_of_frames.new.files ≡ image_of g.D.Disk c.probe_page_size.new.files =
    ap₂ image (read.log.seen) (ap g.D.Disk.seen read.db) in
    fails_wider _ _ _ _ _ _ _ _ c.in-Err.error
    (more_faults _ _ _ _ (omega (arith, c.in-Ok.ensures.faults)) (omega arith))
    (λ huge. (_, subst (λ i. NamesSize i (bytes_of size)) (sym (after ∙ looked)) named, subst (log_files.IsHuge (bytes_of size)) (sym after) huge))
    surely (λ o. o) (c.in-Err.ensures.cause later)

pub returns-in_default-last_first-clause-none : goal.returns-in_default-last_first-clause-none
returns-in_default-last_first-clause-none g c clean none version =
    let start = g.D.Disk.seen c.args.files.now.log in
    let probe = c.probe_page_size.ensures in
    let read = c.pages_of_frames.ensures in
    let found = c.in-Ok.found in
    let size = c.in-Some.size in
    let pages = c.in-Ok-pages_of_frames.pages.items in
    let early = both_clean _ _ _ _ read.log.clean (subst (IsClean g.D.Disk) read.db) clean in
    let by_log : ¬ IsIgnored start → Names found (be32 start 8) = c.in-Ok.ensures.by_log early in
    let taken : AreFramesOf (bytes_of size) start pages ⊎ ((length pages ≡ 0) × ((k : ℕ) → ¬ Replays (bytes_of size) start k)) =
    rw probe.log.seen at (c.in-Ok-pages_of_frames.ensures.frames clean) in
    let no : (i : ℕ) → i < length pages → slice_index pages i ≢ 1 = rw c.deref.ensures.value at (c.in_default-last_first.ensures.none refl) in
    gives_none (bytes_of size) start pages version (λ signed. sym (rw c.in-Some.is at (by_log signed)).1) taken no
