-- How the rows of a store are read into a tree.
use Rattle.std.specs.Prelude.{◌≡◌, List, ◌++◌, Some}
use Rattle.sqlite_value.specs.Order.{Row}
use Rattle.sqlite_trees.specs.Tree.{Trees}
use Rattle.sqlite_trees.specs.View.{View}
use Rattle.osc_model.specs.Tree.{Tree}
use Rattle.osc_store.specs.declared.loading.NextRow.{NextRow as Kind}
use Rattle.osc_store.specs.declared.loading.NextRow.TheVariants.{NextRow, End, Refused}
use Rattle.osc_store.specs.Rows.{Holds, IsServable, rows_of}

-- the rows so far are the tree's, and the cursor has the others
pub record Reads (v : View) (tree : Tree) : Type 0 where
  pub left : List Row
  pub ahead : v.cursors 0 ≡ Some left
  pub rows : v.trees 0 ≡ rows_of tree ++ left

-- the table is that of a tree that a server may have, or of none
abbrev pub HoldsSome : Trees → Type 0
HoldsSome db = (tree : Tree) × IsServable tree × Holds db tree

abbrev pub IsForeign : Trees → Type 0
IsForeign db = (tree : Tree) → IsServable tree → ¬ Holds db tree

abbrev pub Took : Kind → View → Tree → Type 0
Took NextRow v tree = Reads v tree
Took End v tree = Holds v.trees tree
Took Refused v tree = IsForeign v.trees
