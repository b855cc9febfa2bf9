-- What the server finds that starts again.
use Rattle.std.specs.Prelude.{◌≡◌, ◌⊎◌, ℕ, true, List, [], ◌∷◌, codes}
use Rattle.std.specs.FinMap as finmap
use Rattle.sqlite_disk.specs.declared.Disk.{Ghosts}
use Rattle.sqlite_pages.specs.PageMap.{PageMap}
use Rattle.sqlite_pool.specs.Opening.{IsBlankFile}
use Rattle.sqlite_pool.specs.Stored.{Recovers, stored_size}
use Rattle.sqlite_value.specs.declared.value.Value.TheVariants.{Text}
use Rattle.sqlite_store.specs.FileStore.{state}
use Rattle.sqlite_store.specs.Listing.{file_trees, listed_from, IsOurs}
use Rattle.sqlite_store.specs.Opening.{IsEmptyFile}
use Rattle.sqlite_store.specs.declared.catalog.Wanted.{Wanted}
use Rattle.sqlite_store.specs.declared.store.FileStore.{FileStore}
use Rattle.sqlite_trees.specs.Objects.{catalog_tree}
use Rattle.sqlite_trees.specs.Tree.{Trees}
use Rattle.sqlite_trees.specs.declared.store.Shape.TheVariants.{Index}
use Rattle.sqlite_value.specs.Keys.{plain}
use Rattle.sqlite_wal.specs.PageSize.{IsPageSize}
use Rattle.sqlite_wal.specs.Recovery.{Image}
use Rattle.osc_model.specs.Tree.{Tree}
use Rattle.osc_store.specs.Rows.{Holds, IsServable}

-- the table in SQL
abbrev pub statement : List ℕ
statement = codes "CREATE TABLE resource(path TEXT PRIMARY KEY, format INTEGER, payload BLOB NOT NULL) STRICT, WITHOUT ROWID"

-- the one table of the file, as sqlite_schema lists it
abbrev pub schema : List Wanted
schema = record {
  shape = Index plain;
  reals = 0;
  row = Text (codes "table") ∷ Text (codes "resource") ∷ Text (codes "resource") ∷ Text statement ∷ [];
} ∷ []

-- sqlite_schema lists this table and nothing else
abbrev pub ListsTable : Trees → Type 0
ListsTable db = db catalog_tree ≡ listed_from 0 schema

-- the database file and its log read as these tables, in pages of any size, with sums or without
pub record ReadsAs (image : Image) (db : Trees) : Type 0 where
  pub size : ℕ
  pub pages : PageMap
  pub wanted : List Wanted
  pub sized : IsPageSize (stored_size size)
  pub found : Recovers size image pages
  pub ours : ∥ IsOurs size true wanted pages ∥₁
  pub reads : db ≡ file_trees size wanted pages

-- the files are a database of this table alone, which has a row for each resource
abbrev pub HoldsTree : Image → Tree → Type 0
HoldsTree image tree = (db : Trees) × ReadsAs image db × ListsTable db × Holds db tree

-- how many bytes of a page are used: 4096, less a sum of 8
abbrev pub page : ℕ
page = 4088

-- the files are a sound database without a table
abbrev pub IsEmpty : Image → Type 0
IsEmpty image = (pages : PageMap) × Recovers page image pages × IsEmptyFile page pages

-- a first start has made nothing yet, or was cut off: there is no byte, or part of a first page, or a database without a table
abbrev pub IsUnmade : Image → Type 0
IsUnmade image = ∥ IsBlankFile page image ⊎ IsEmpty image ∥₁

-- what a start finds in the files: their tree, or no resource where none was made yet
abbrev pub FindsTree : Image → Tree → Type 0
FindsTree image tree = HoldsTree image tree ⊎ (IsUnmade image × (tree ≡ finmap.empty))

-- the files are a store that a server of ours may have left
abbrev pub IsStore : Image → Type 0
IsStore image = (tree : Tree) × FindsTree image tree × IsServable tree

-- whatever a crash leaves is found as this tree
abbrev pub Leaves : (Image → Type 0) → Tree → Type 0
Leaves outcomes tree = (image : Image) → outcomes image → ∥ FindsTree image tree ∥₁

-- what a start finds in them is one of the two
abbrev pub FindsEither : Image → Tree → Tree → Type 0
FindsEither image before after = ∥ FindsTree image before ⊎ FindsTree image after ∥₁

-- the two are one tree
abbrev pub AreOne : Tree → Tree → Type 0
AreOne a b = ∥ a ≡ b ∥₁

-- the same as IsEmpty, where which pages they are isn't told
abbrev pub HasNoTable : Image → Type 0
HasNoTable image = ∥ IsEmpty image ∥₁

-- whatever a crash leaves, the database file alone is found as this tree
abbrev pub IsWhole : {D : Type 0} {g : Ghosts D} → FileStore D g → Tree → Type 0
IsWhole it tree = (left : Image) → (state it).may_leave left → ∥ FindsTree (record { log = []; db = left.db }) tree ∥₁
