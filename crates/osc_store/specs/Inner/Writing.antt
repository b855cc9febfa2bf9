-- What a call of a store changes, and what it leaves as it was.
use Rattle.std.specs.Prelude.{◌≡◌, ◌≤◌, false, true, Bool, ℕ, List, Some, None}
use Rattle.std.specs.FinMap as finmap
use Rattle.sqlite_value.specs.Order.{Row}
use Rattle.sqlite_trees.specs.Tree.{Trees}
use Rattle.sqlite_trees.specs.Objects.{catalog_tree}
use Rattle.sqlite_trees.specs.View.{View, doubt}
use Rattle.osc_model.specs.Tree.{Tree}
use Rattle.osc_model.specs.declared.resource.Resource.{Resource}
use Rattle.osc_store.specs.Rows.{row_of}

-- sqlite_schema is the same
abbrev pub KeepsList : View → View → Type 0
KeepsList old new = new.trees catalog_tree ≡ old.trees catalog_tree

-- only the cursors differ
abbrev pub IsSame : View → View → Type 0
IsSame old new = new ≡ record old { cursors = new.cursors }

-- what the path has is this row, or it has nothing
abbrev pub Finds : Tree → List ℕ → Row → Bool → Type 0
Finds tree path row true = (resource : Resource) × (finmap.get tree path ≡ Some resource) × (row ≡ row_of (path, resource))
Finds tree path row false = finmap.get tree path ≡ None

module _ {S : Type 0} (view : S → View) (recovers : S → Trees → Type 0) where
  -- no wrong answer of the disk is forgotten, nor a failure, and a crash leaves nothing new
  pub record AddsNone (faults : S → ℕ) (old new : S) : Type 0 where
    pub clean : doubt (view old).is_clean ≤ doubt (view new).is_clean
    pub counts : faults old ≤ faults new
    pub outcomes : (db : Trees) → recovers new db → recovers old db
