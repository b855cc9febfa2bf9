-- None of the frames from here on is the first page's.
use Rattle.std.proofs.Common.{◌≢◌, ◌≤◌, ◌<◌, ℕ, length, slice_index}
use Rattle.osc_store.proofs.logged.last_first.Given as goal

abbrev pub invariant-loop-at : goal.invariant-loop-at
invariant-loop-at l = record {
  within : l.at ≤ length l.pages;
  none : (i : ℕ) → l.at ≤ i → i < length l.pages → slice_index l.pages i ≢ 1;
}

abbrev pub decreases-loop-at : goal.decreases-loop-at
decreases-loop-at l = l.at
