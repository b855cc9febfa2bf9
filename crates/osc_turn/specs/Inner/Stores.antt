-- What a store leaves that may have been shut by a failure.
use Rattle.sqlite_trees.specs.Tree.{Trees}
use Rattle.sqlite_trees.specs.View.{View}
use Rattle.osc_model.specs.Tree.{Tree}
use Rattle.osc_store.specs.{MayLeave}
use Rattle.osc_turn.specs.Kept.Turns.{second}

module _ {S : Type 0} (view : S → View) (recovers : S → Trees → Type 0) where
  -- if it leaves one tree, it leaves one of two, the second
  pub may_leave_last : (s : S) (before after : Tree) → MayLeave view recovers s after after → MayLeave view recovers s before after
  may_leave_last s before after holds = record {
    numbered = holds.numbered;
    left = λ db recovered. let held = holds.left db recovered in (held.0, second held.1);
  }
