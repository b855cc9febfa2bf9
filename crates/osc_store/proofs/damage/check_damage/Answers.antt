use Rattle.std.proofs.Common.{◌≡◌, ◌∙◌, ap, ap₂, arith, inl, inr, subst, sym, refl, List, ℕ}
use Rattle.std.proofs.lemmas.Result.{IfErr-weaker as err_weaker}
use Rattle.sqlite_wal.specs.Files as log_files
use Rattle.sqlite_wal.specs.Format.{be32}
use Rattle.sqlite_wal.specs.PageSize.{bytes_of, size_in_file, IsPageSize, Names}
use Rattle.sqlite_wal.specs.Reads.{IsClean}
use Rattle.sqlite_wal.specs.Recovery.{Image, IsIgnored, Replays}
use Rattle.sqlite_wal.proofs.CleanLemmas.{both_clean, halves}
use Rattle.osc_store.specs.{EndTwoCommits, NamesSize, Refuses, image_of}
use Rattle.osc_store.proofs.DamageLemmas.{damaged_by}
use Rattle.osc_store.proofs.FindLemmas.{fails_wider, more_faults, same_image, surely}
use Rattle.osc_store.proofs.damage.check_damage.Goals as goal

abbrev image : List ℕ → List ℕ → Image
image log db = record { log = log; db = db }

pub returns-clause-cause : goal.returns-clause-cause
returns-clause-cause g c =
    let seen = g.D.Disk.seen in
    let old = c.args.files.now in
    let start = image_of g.D.Disk old in
    let look = c.is_log.ensures.same in
    let probe = c.probe_page_size.ensures in
    let read = c.check_frames.ensures in
    let size = c.in-Some.size in
    err_weaker c.check_frames.result _ _ (λ e why later.
    let clean = both_clean _ _ _ _ read.log.clean (subst (IsClean g.D.Disk) read.db) later in
    let early = both_clean _ _ _ _ probe.log.clean probe.db.clean clean in
    let by_log : ¬ IsIgnored (seen c.is_log.new.log) → Names c.in-Ok-probe_page_size.found (be32 (seen c.is_log.new.log) 8) = c.in-Ok-probe_page_size.ensures.by_log clean in
    let by_file : IsIgnored (seen c.is_log.new.log) → Names c.in-Ok-probe_page_size.found (size_in_file (seen old.db)) = c.in-Ok-probe_page_size.ensures.by_file clean in
    let signed : ¬ IsIgnored start.log = (c.in-Ok.ensures.ok (halves g.D.Disk _ _ early).0).0 c.if-not-is_log.false in
    let first : image (seen c.is_log.new.log) (seen old.db) ≡ start = ap (λ l. image l (seen old.db)) look.seen in
    let looked : image_of g.D.Disk c.probe_page_size.new.files ≡ image (seen c.is_log.new.log) (seen old.db) = same_image probe.log probe.db in
    let after : image_of g.D.Disk c.check_frames.new.files ≡ image_of g.D.Disk c.probe_page_size.new.files = ap₂ image read.log.seen (ap seen read.db) in
    let named : NamesSize (image (seen c.is_log.new.log) (seen old.db)) (bytes_of size) = (λ s. (rw c.in-Some.is at (by_log s)).1, λ ignored. (rw c.in-Some.is at (by_file ignored)).1) in
    elim (why later) [
      | inl failed ↦ inl (fails_wider _ _ _ _ _ _ _ _ e
          (more_faults _ _ _ _ (omega (arith, c.in-Ok.ensures.faults, c.in-Ok-probe_page_size.ensures.faults)) (omega arith))
          (λ huge. (_, subst (λ i. NamesSize i (bytes_of size)) (sym (after ∙ looked)) named, subst (log_files.IsHuge (bytes_of size)) (sym after) huge))
          surely (λ o. o) failed)
      | inr damaged ↦
          let same : seen c.probe_page_size.new.files.log ≡ start.log = probe.log.seen ∙ look.seen in
          let here : ¬ IsIgnored (seen c.is_log.new.log) = subst (λ (l : List ℕ). ¬ IsIgnored l) (sym look.seen) signed in
          let known = rw c.in-Some.is at (by_log here) in
          let number : be32 start.log 8 ≡ bytes_of size = subst (λ (l : List ℕ). be32 l 8 ≡ bytes_of size) look.seen (sym known.1) in
          let sized : IsPageSize (bytes_of size) = subst IsPageSize (sym known.1) (known.0.0 refl) in
          inr (subst (Refuses start ⊥) (sym damaged.0) (damaged_by start.log (bytes_of size) damaged.1 sized signed number
          (subst (λ (l : List ℕ). Replays (bytes_of size) l damaged.1) same damaged.2)
          (subst (λ (l : List ℕ). EndTwoCommits (bytes_of size) l damaged.1) same damaged.3)))
    ]) read.cause
