-- None of the frames past the first one, up to this, ends a commit.
use Rattle.std.proofs.Common.{◌≡◌, ◌≤◌, ◌<◌, ◌-◌, ℕ}
use Rattle.sqlite_wal.specs.PageSize.{bytes_of}
use Rattle.sqlite_wal.specs.Reads.{IsClean, OnlyReads}
use Rattle.osc_store.specs.{EndsCommit}
use Rattle.osc_store.proofs.damage.next_end.Given as goal

abbrev pub invariant-loop-at : goal.invariant-loop-at
invariant-loop-at g l = record {
  past : l.past ≤ l.at;
  none : IsClean g.D.Disk l.log → (i : ℕ) → l.past < i → i ≤ l.at → ¬ EndsCommit (bytes_of l.size) (g.D.Disk.seen l.fn.log) i;
  same : OnlyReads g.D.Disk l.fn.log l.log;
  faults : g.D.Disk.faults l.log ≡ g.D.Disk.faults l.fn.log;
}

abbrev pub decreases-loop-at : goal.decreases-loop-at
decreases-loop-at g l = l.frames - l.at
