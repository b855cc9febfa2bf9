-- What keeps some resources, or leaves some, where they are the same as others.
use Rattle.std.specs.Prelude.{◌≡◌}
use Rattle.std.proofs.Common.{subst, subst₂}
use Rattle.sqlite_trees.specs.Tree.{Trees}
use Rattle.sqlite_trees.specs.View.{View}
use Rattle.osc_model.specs.Tree.{Tree}
use Rattle.osc_store.specs.{Keeps, MayLeave}

-- what keeps some resources keeps those that are the same
pub keeps_same : {S : Type 0} (view : S → View) (recovers : S → Trees → Type 0) (it : S) (one other : Tree) → one ≡ other → Keeps view recovers it one → Keeps view recovers it other
keeps_same view recovers it one other same keeps = subst (Keeps view recovers it) same keeps

pub leaves_same : {S : Type 0} (view : S → View) (recovers : S → Trees → Type 0) (it : S) (before one after other : Tree) → before ≡ one → after ≡ other
    → MayLeave view recovers it before after → MayLeave view recovers it one other
leaves_same view recovers it before one after other same too leaves = subst₂ (MayLeave view recovers it) same too leaves
