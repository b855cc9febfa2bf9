use Rattle.std.proofs.Common.{ℕ, List, inl, inr}
use Rattle.sqlite_wal.specs.declared.error.Error.TheVariants as log
use Rattle.sqlite_wal.specs.Opening.{RefusesLog}
use Rattle.sqlite_wal.specs.Recovery.{Replays}
use Rattle.sqlite_wal.proofs.CleanLemmas.{halves}
use Rattle.osc_store.proofs.damage.frames_taken.Goals as goal

never_replayed : (size : ℕ) (bytes : List ℕ) → RefusesLog size bytes log.Corrupt → (k : ℕ) → ¬ Replays size bytes k
never_replayed size bytes (inl bad) = bad.1
never_replayed size bytes (inr huge) = let e = huge.0 in absurd (cc)

pub returns-in-Err-Corrupt-clause-none : goal.returns-in-Err-Corrupt-clause-none
returns-in-Err-Corrupt-clause-none g c clean none =
    let cause = rw c.in-Err-Corrupt.field-0-is at c.in-Err-Corrupt.ensures.cause in
    never_replayed _ _ (cause.0 (halves g.D.Disk _ _ clean).0)
