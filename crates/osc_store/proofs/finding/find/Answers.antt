use Rattle.std.proofs.Common.{◌≡◌, sym, subst, ◌∙◌, arith}
use Rattle.std.proofs.lemmas.Bool.{iff_false}
use Rattle.sqlite_wal.specs.Files as log_files
use Rattle.sqlite_wal.specs.Format.{be32}
use Rattle.sqlite_wal.specs.PageSize.{bytes_of, size_in_file, Names}
use Rattle.sqlite_wal.specs.Recovery.{IsIgnored}
use Rattle.sqlite_wal.proofs.CleanLemmas.{both_clean}
use Rattle.sqlite_pool.specs.Opening.{IsBlankFile}
use Rattle.osc_store.specs.{page, HasSound, IsTooLong, NamesSize, image_of}
use Rattle.osc_store.proofs.FindLemmas.{fails_wider, more_faults, probe_finds, probe_size, reads_then, same_image, store_is_sound, surely_some, surely}
use Rattle.osc_store.proofs.finding.find.Goals as goal

pub returns-in-Err-clause-cause : goal.returns-in-Err-clause-cause
returns-in-Err-clause-cause g c clean =
    let read = c.is_blank.ensures in
    fails_wider _ _ _ _ _ _ _ _ c.in-Err.error (λ f. f) (subst IsTooLong (sym (same_image read.log read.db))) (λ w. surely tt) (λ o. o) (c.in-Err.ensures.cause clean)

pub returns-in_default-found-clause-cause : goal.returns-in_default-found-clause-cause
returns-in_default-found-clause-cause g c clean store =
    let start = image_of g.D.Disk c.args.files.now in
    let read = c.is_blank.ensures in
    let probe = c.probe_page_size.ensures in
    let found = c.in-Ok.found in
    let some : ¬ IsBlankFile page start = iff_false (c.in-Ok-false.ensures.ok (both_clean _ _ _ _ probe.log.clean probe.db.clean clean)) c.in-Ok-false.field-0-test in
    let by_log : ¬ IsIgnored start.log → Names found (be32 start.log 8) = rw read.log.seen at (c.in-Ok.ensures.by_log clean) in
    let by_file : IsIgnored start.log → Names found (size_in_file start.db) = rw (read.log.seen, read.db.seen) at (c.in-Ok.ensures.by_file clean) in
    surely_some (store_is_sound start store some) (λ sound. probe_finds start found by_log by_file sound.0 sound.1 c.in_default-found.is) (λ x. x)

pub returns-in-Ok-has_sums-clause-fits : goal.returns-in-Ok-has_sums-clause-fits
returns-in-Ok-has_sums-clause-fits g c later n held =
    let start = image_of g.D.Disk c.args.files.now in
    let read = c.is_blank.ensures in
    let probe = c.probe_page_size.ensures in
    let summed = c.has_sums.ensures in
    let found = c.in-Ok.found in
    let clean = both_clean _ _ _ _ summed.log.clean summed.db.clean later in
    let by_log : ¬ IsIgnored start.log → Names found (be32 start.log 8) = rw read.log.seen at (c.in-Ok.ensures.by_log clean) in
    let by_file : IsIgnored start.log → Names found (size_in_file start.db) = rw (read.log.seen, read.db.seen) at (c.in-Ok.ensures.by_file clean) in
    let looked : image_of g.D.Disk c.probe_page_size.new.files ≡ start = same_image (reads_then read.log probe.log) (reads_then read.db probe.db) in
    c.in-Ok-has_sums.ensures.ok later n (subst (λ i. HasSound i n) (sym looked) held) (probe_size start found by_log by_file n held c.in-Some.size c.in-Some.is)

pub returns-in-Err-has_sums-clause-cause : goal.returns-in-Err-has_sums-clause-cause
returns-in-Err-has_sums-clause-cause g c later =
    let start = image_of g.D.Disk c.args.files.now in
    let read = c.is_blank.ensures in
    let probe = c.probe_page_size.ensures in
    let summed = c.has_sums.ensures in
    let found = c.in-Ok.found in
    let clean = both_clean _ _ _ _ summed.log.clean summed.db.clean later in
    let some : ¬ IsBlankFile page start = iff_false (c.in-Ok-false.ensures.ok (both_clean _ _ _ _ probe.log.clean probe.db.clean clean)) c.in-Ok-false.field-0-test in
    let by_log : ¬ IsIgnored start.log → Names found (be32 start.log 8) = rw read.log.seen at (c.in-Ok.ensures.by_log clean) in
    let by_file : IsIgnored start.log → Names found (size_in_file start.db) = rw (read.log.seen, read.db.seen) at (c.in-Ok.ensures.by_file clean) in
    let chosen = c.in-Some.size in
    let looked : image_of g.D.Disk c.probe_page_size.new.files ≡ start = same_image (reads_then read.log probe.log) (reads_then read.db probe.db) in
    let after : image_of g.D.Disk c.has_sums.new.files ≡ image_of g.D.Disk c.probe_page_size.new.files = same_image summed.log summed.db in
    let named : NamesSize start (bytes_of chosen) = (λ signed. (rw c.in-Some.is at (by_log signed)).1, λ ignored. (rw c.in-Some.is at (by_file ignored)).1) in
    fails_wider _ _ _ _ _ _ _ _ c.in-Err-has_sums.error
    (more_faults _ _ _ _ (omega (arith, read.counts, c.in-Ok.ensures.faults)) (omega arith))
    (λ huge. (_, subst (λ i. NamesSize i (bytes_of chosen)) (sym (after ∙ looked)) named, subst (log_files.IsHuge (bytes_of chosen)) (sym after) huge))
    (λ store. surely_some (store_is_sound start store some) (λ sound. (sound.0, subst (λ i. HasSound i sound.0) (sym looked) sound.1, probe_size start found by_log by_file sound.0 sound.1 chosen c.in-Some.is)))
    (λ o. o) (c.in-Err-has_sums.ensures.cause later)
