-- The store of a server: what it begins with, and what of it is listed.
use Rattle.std.specs.Prelude.{◌≡◌, ◌==◌, ◌||◌, ℕ, Bool, List, [], ◌++◌, Option, Some, None, true, if◌then◌else◌, codes, decimal, drop}
use Rattle.std.specs.Char.{encode_utf8, is_control}
use Rattle.std.specs.Int.{to_be_bytes, w16}
use Rattle.std.specs.List.{flat_map}
use Rattle.std.specs.Str.{chars}
use Rattle.std.specs.FinMap as map
use Rattle.hex.specs.Hex.{encode_lower}
use Rattle.sqlite_trees.specs.Tree.{Trees}
use Rattle.sqlite_trees.specs.View.{View, IsClean}
use Rattle.sqlite_wal.specs.Recovery.{Image}
use Rattle.osc_model.specs.Tree.{Tree}
use Rattle.osc_model.specs.declared.resource.Resource.{Resource}
use Rattle.osc_words.specs.declared.settings.resource.ResourceSetting.{ResourceSetting}
use Rattle.osc_words.specs.declared.settings.store_file.StoreDisk.{StoreDisk}
use Rattle.osc_server.specs.State.{State as Server}
use Rattle.osc_simulation.specs.{line}
use Rattle.osc_store.specs.{FindsTree, Keeps}
use Rattle.osc_programs.specs.Checked.{resource_line}
use Rattle.osc_programs.specs.Kept.{HasCause, LeavesKept}
use Rattle.osc_programs.specs.Revoking.{IsTooLongIn, KeepsTree, MayHoldTree}
use Rattle.osc_programs.specs.Serving.{tree_of}
use Rattle.osc_programs.specs.declared.ended.Ended.{Ended}

-- A store was opened over files that read so: they are found as this tree, and whatever a crash leaves from now on, the next start finds it.
-- So it is as long as no wrong answer of the disk was taken as true.
pub record IsOpened {S : Type 0} (view : S → View) (recovers : S → Trees → Type 0) (image : Image) (it : S) (tree : Tree) : Type 0 where
  pub found : IsClean (view it) → FindsTree image tree
  pub kept : IsClean (view it) → Keeps view recovers it tree

-- The store in the file of this name was opened so. Where it was made first, it has the first resources.
pub record IsStoreAt {S : Type 0} (view : S → View) (recovers : S → Trees → Type 0) (image : Image) (file : List ℕ) (first : List ResourceSetting)
    (it : S) (own : List ℕ) (made : Bool) (tree : Tree) : Type 0 where
  pub name : own ≡ file
  pub opened : IsOpened view recovers image it tree
  pub as_made : made ≡ true → tree ≡ tree_of first

module _ {K : Type 0} (holds : StoreDisk → List ℕ → List ResourceSetting → K → Tree → Type 0) (file_of : K → Option (List ℕ)) (keeps : K → Server → Type 0) (may_hold : K → Server → Server → Type 0) (trusted : K → Type 0) (faults : K → ℕ) (too_long : Server → Type 0) where
  -- What keeps the changes of a server that ended so is the store in the file of this name, which was opened with the resources that the server began
  -- with, for a disk of which this is supposed. Whatever a crash leaves, the next start finds those after all that the server did; or where a change isn't kept, which has a cause, those
  -- before it or after it.
  pub record IsKeptIn (disk : StoreDisk) (file : List ℕ) (resources : List ResourceSetting) (tree : Tree) (ended : Ended) (before after : Tree) (keeper : K) : Type 0 where
    pub opened : K
    pub begun : holds disk file resources opened tree
    pub is_file : file_of keeper ≡ Some file
    pub kept : LeavesKept (KeepsTree keeps) (MayHoldTree may_hold) ended before after keeper
    pub cause : HasCause trusted faults (IsTooLongIn too_long after) opened keeper ended

  -- So it is where the settings name a store. Without one nothing keeps them, and the server began with the resources of its settings.
  abbrev pub KeptBy : Option (List ℕ) → StoreDisk → List ResourceSetting → Tree → Ended → Tree → Tree → Option K → Type 0
  KeptBy None disk resources tree ended before after None = tree ≡ tree_of resources
  KeptBy None disk resources tree ended before after (Some keeper) = ⊥
  KeptBy (Some file) disk resources tree ended before after None = ⊥
  KeptBy (Some file) disk resources tree ended before after (Some keeper) = IsKeptIn disk file resources tree ended before after keeper

-- ---- `osc store`

-- two files of some contents are found as these resources
abbrev pub IsRead : Tree → Type 0
IsRead tree = (image : Image) × FindsTree image tree

-- resource PATH FORMAT N bytes
abbrev pub stored_line : List ℕ × Resource → List ℕ
stored_line entry = resource_line (record { path = entry.0; format = entry.1.format; payload = entry.1.payload })

-- a line for each resource, in the order of the bytes of their paths
abbrev pub store_lines : Tree → List ℕ
store_lines tree = flat_map stored_line (map.entries tree)

-- ---- `osc store --dump`

-- no character of a basic string of TOML, or one that moves a cursor: a quotation mark, a backslash, or a control character
abbrev pub is_escaped : ℕ → Bool
is_escaped char = is_control char || char == 34 || char == 92

-- what stands for a character in such a string: its UTF-8, or its number in hexadecimal
abbrev pub quoted_char : ℕ → List ℕ
quoted_char char = if is_escaped char then codes "\\u" ++ encode_lower (to_be_bytes w16 char) else encode_utf8 char

-- path = "PATH"
abbrev pub path_line : List ℕ → List ℕ
path_line path = line (codes "path = \"" ++ flat_map quoted_char (chars path) ++ codes "\"")

-- format = N, where it has one
abbrev pub format_line : Option ℕ → List ℕ
format_line None = []
format_line (Some format) = line (codes "format = " ++ decimal format)

-- hex = "PAYLOAD"
abbrev pub payload_line : List ℕ → List ℕ
payload_line payload = line (codes "hex = \"" ++ encode_lower payload ++ codes "\"")

-- an empty line, and the resource as settings name it
unfoldable pub dump_table : List ℕ × Resource → List ℕ
dump_table entry = line [] ++ line (codes "[[resource]]") ++ path_line entry.0 ++ format_line entry.1.format ++ payload_line entry.1.payload

-- a table for each resource, in the order of the bytes of their paths; nothing is before the first
abbrev pub dump_lines : Tree → List ℕ
dump_lines tree = drop 1 (flat_map dump_table (map.entries tree))

-- what `osc store` prints, with `--dump` or without
abbrev pub printed : Bool → Tree → List ℕ
printed dump tree = if dump then dump_lines tree else store_lines tree

-- ---- `osc store --backup TO`

-- bytes of a file that alone is found as these resources
abbrev pub IsSaved : Tree → Type 0
IsSaved tree = (bytes : List ℕ) × FindsTree (record { log = []; db = bytes }) tree
