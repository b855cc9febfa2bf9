-- A tree as the rows of a table.
use Rattle.std.specs.Prelude.{◌≡◌, ℕ, ◌^◌, ◌<◌, pos, List, [], ◌∷◌, map, Option, Some, None, ⊤}
use Rattle.std.specs.FinMap as finmap
use Rattle.sqlite_value.specs.Order.{Row}
use Rattle.sqlite_value.specs.declared.value.Value.{Value}
use Rattle.sqlite_value.specs.declared.value.Value.TheVariants.{Null, Int, Text, Blob}
use Rattle.sqlite_trees.specs.Tree.{Trees}
use Rattle.osc_model.specs.{IsPath, IsWithinLimits}
use Rattle.osc_model.specs.Tree.{Tree}
use Rattle.osc_model.specs.declared.resource.Resource.{Resource}

abbrev pub key_of : List ℕ → Row
key_of path = Text path ∷ []

abbrev pub format_value : Option ℕ → Value
format_value None = Null
format_value (Some format) = Int (pos format)

-- a path's text, the Content-Format or NULL, and the payload
abbrev pub row_of : List ℕ × Resource → Row
row_of entry = Text entry.0 ∷ format_value entry.1.format ∷ Blob entry.1.payload ∷ []

abbrev pub rows_of : Tree → List Row
rows_of tree = map row_of (finmap.entries tree)

-- the first tree has a row for each resource, in the order of their paths
abbrev pub Holds : Trees → Tree → Type 0
Holds db tree = db 0 ≡ rows_of tree

-- the tree, where the path has this from now on, or nothing
abbrev pub changed : Tree → List ℕ → Option Resource → Tree
changed tree path None = finmap.remove tree path
changed tree path (Some resource) = finmap.insert tree path resource

-- a Content-Format has two bytes
abbrev pub IsFormat : Option ℕ → Type 0
IsFormat None = ⊤
IsFormat (Some format) = format < 2 ^ 16

abbrev pub IsServableAt : List ℕ × Resource → Type 0
IsServableAt entry = IsPath entry.0 × IsFormat entry.1.format

-- a server may have it: it is within the limits, of paths, and of formats of two bytes
pub record IsServable (tree : Tree) : Type 0 where
  pub limits : IsWithinLimits tree
  pub each : (path : List ℕ) (resource : Resource) → finmap.get tree path ≡ Some resource → IsServableAt (path, resource)
