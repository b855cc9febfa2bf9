use Rattle.std.proofs.Common.{◌≡◌, List, Option, inr, refl, subst, sym, ℕ}
use Rattle.std.proofs.lemmas.Bool.{iff_false}
use Rattle.std.specs.Option.{IfSome}
use Rattle.sqlite_wal.specs.PageSize.{bytes_of}
use Rattle.sqlite_wal.specs.Recovery.{Replays}
use Rattle.sqlite_wal.proofs.CleanLemmas.{both_clean, halves}
use Rattle.sqlite_wal.proofs.RecoveryLemmas.{replays_once}
use Rattle.osc_store.specs.{EndTwoCommits}
use Rattle.osc_store.proofs.damage.check_frames.Goals as goal

pub returns-in-Ok-None-clause-ok : goal.returns-in-Ok-None-clause-ok
returns-in-Ok-None-clause-ok g c clean k replays = absurd (c.in-Ok-None.ensures.none clean c.in-Ok-None.field-0-is k replays)

pub returns-in-Ok-false-clause-ok : goal.returns-in-Ok-false-clause-ok
returns-in-Ok-false-clause-ok g c clean k replays two =
    let log = g.D.Disk.seen c.args.files.now.log in
    let size = bytes_of c.args.size in
    let read = c.frames_taken.ensures in
    let ends = c.end_two_commits.ensures in
    let early = both_clean _ _ _ _ ends.same.clean (λ x. x) clean in
    let taken = subst (λ (o : Option ℕ). IfSome o (Replays size log)) c.in-Ok-Some.field-0-is (c.in-Ok-Some.ensures.some early) in
    let same = replays_once size log k c.in-Ok-Some.taken replays taken in
    iff_false (c.in-Ok-false.ensures.ok (halves g.D.Disk _ _ clean).0) c.in-Ok-false.field-0-test
    (subst (λ (l : List ℕ). EndTwoCommits size l c.in-Ok-Some.taken) (sym read.log.seen) (subst (EndTwoCommits size log) same two))

pub returns-in-Ok-true-clause-cause : goal.returns-in-Ok-true-clause-cause
returns-in-Ok-true-clause-cause g c = λ clean.
    let log = g.D.Disk.seen c.args.files.now.log in
    let size = bytes_of c.args.size in
    let read = c.frames_taken.ensures in
    let ends = c.end_two_commits.ensures in
    let early = both_clean _ _ _ _ ends.same.clean (λ x. x) clean in
    let taken = subst (λ (o : Option ℕ). IfSome o (Replays size log)) c.in-Ok-Some.field-0-is (c.in-Ok-Some.ensures.some early) in
    inr (refl, c.in-Ok-Some.taken, taken, subst (λ (l : List ℕ). EndTwoCommits size l c.in-Ok-Some.taken) read.log.seen ((c.in-Ok-true.ensures.ok (halves g.D.Disk _ _ clean).0).0 c.in-Ok-true.field-0-test))
