-- Scopes as bytes: authorization information in the form of RFC 9237, an array of pairs of a path and a set of methods.
use Rattle.std.specs.Prelude.{ℕ, ◌/◌, ◌%◌, ◌≤◌, ◌==◌, Bool, ◌||◌, List, [], ◌∷◌, map, filter, flat_map}
use Rattle.std.specs.List.{All, list_any}
use Rattle.std.specs.FinSet as set
use Rattle.osc_model.specs.{IsPath, Permission, is_reached}
use Rattle.osc_model.specs.Scope.{Scope}
use Rattle.osc_model.specs.declared.code.Method.{Method}
use Rattle.osc_model.specs.declared.code.Method.TheVariants.{Get, Post, Put, Delete}
use Rattle.osc_cbor.specs.{DataItem, Items, no_items, item, array, text_string, unsigned, IsWhole}

-- the text of a path, and a set of methods as a number, which has a bit besides where they count on the paths below, too
pub record Entry : Type 0 where
  pub path : List ℕ
  pub mask : ℕ

-- the bit of a method in the set (RFC 9237 section 3)
abbrev pub bit_of : Method → ℕ
bit_of Get = 1
bit_of Post = 2
bit_of Put = 4
bit_of Delete = 8

abbrev pub has : ℕ → Method → Bool
has mask method = mask / bit_of method % 2 == 1

abbrev pub methods : List Method
methods = Get ∷ Post ∷ Put ∷ Delete ∷ []

-- whether the set counts on the paths below the entry's, too
abbrev pub is_below : ℕ → Bool
is_below mask = mask / 16 % 2 == 1

-- the permissions of an entry: each method of its set
abbrev pub permissions : Entry → List Permission
permissions entry = map (λ method. record { path = entry.path; below = is_below entry.mask; method = method }) (filter (has entry.mask) methods)

-- The scope has the permissions of all entries: those of one path are joined, apart for the path alone and for those below.
abbrev pub scope_of : List Entry → Scope
scope_of entries = set.from_list (flat_map permissions entries)

-- whether an entry has the path
abbrev pub has_path : Entry → List ℕ → Bool
has_path entry path = is_reached entry.path (is_below entry.mask) path

-- whether one of two entries has the other's path, so that they have a path in common
abbrev pub overlap : Entry → Entry → Bool
overlap entry other = has_path entry other.path || has_path other entry.path

-- whether an entry of the one list has a path in common with an entry of the other
abbrev pub share_a_path : List Entry → List Entry → Bool
share_a_path entries others = list_any (λ entry. list_any (overlap entry) others) entries

-- a path, and one method or more of the four
pub record IsLawful (entry : Entry) : Type 0 where
  pub is_path : IsPath entry.path
  pub some : 1 ≤ entry.mask % 16
  pub known : entry.mask ≤ 31

abbrev pub entry_item : Entry → DataItem
entry_item entry = array (item (text_string entry.path) (item (unsigned entry.mask) no_items))

abbrev pub entry_items : List Entry → Items
entry_items [] = no_items
entry_items (entry ∷ entries) = item (entry_item entry) (entry_items entries)

-- the bytes are a scope of these entries
pub record IsScope (bytes : List ℕ) (entries : List Entry) : Type 0 where
  pub whole : IsWhole bytes (array (entry_items entries))
  pub lawful : All IsLawful entries
