-- Scopes as text: `/log:GET+POST,/t:GET+SUB`.
use Rattle.std.specs.Prelude.{◌≡◌, ◌≢◌, ℕ, ◌+◌, Bool, true, false, List, [], ◌∷◌, ◌++◌, map, flat_map, codes}
use Rattle.std.specs.List.{All, sum_by}
use Rattle.std.specs.FinSet as set
use Rattle.osc_model.specs.{IsPath, Permission}
use Rattle.osc_model.specs.Scope.{Scope}
use Rattle.osc_model.specs.declared.code.Method.{Method}
use Rattle.osc_model.specs.declared.code.Method.TheVariants.{Get, Post, Put, Delete}
use Rattle.osc_scope.specs.Entries.{Entry, bit_of}

-- the text of a path, methods in the order in which they are written, and whether they count on the paths below, too
pub record Written : Type 0 where
  pub path : List ℕ
  pub methods : List Method
  pub below : Bool

abbrev pub name_of : Method → List ℕ
name_of Get = codes "GET"
name_of Post = codes "POST"
name_of Put = codes "PUT"
name_of Delete = codes "DELETE"

-- one after another, with a byte between each two
abbrev pub parted_by : ℕ → List (List ℕ) → List ℕ
parted_by byte [] = []
parted_by byte (part ∷ []) = part
parted_by byte (part ∷ next ∷ parts) = part ++ byte ∷ parted_by byte (next ∷ parts)

-- the word that is last where the paths below count, too
abbrev pub below_word : Bool → List (List ℕ)
below_word true = codes "SUB" ∷ []
below_word false = []

abbrev pub words_of : Written → List (List ℕ)
words_of entry = map name_of entry.methods ++ below_word entry.below

-- PATH:METHOD+METHOD, or PATH:METHOD+METHOD+SUB
abbrev pub entry_text : Written → List ℕ
entry_text entry = entry.path ++ 58 ∷ parted_by 43 (words_of entry)

-- ENTRY,ENTRY
abbrev pub scope_text : List Written → List ℕ
scope_text entries = parted_by 44 (map entry_text entries)

-- no method twice
abbrev pub AreApart : List Method → Type 0
AreApart [] = Unit {0}
AreApart (method ∷ methods) = All (λ other. other ≢ method) methods × AreApart methods

-- a path without `:` and `,`, and one method or more, none twice
pub record IsLawfulText (entry : Written) : Type 0 where
  pub is_path : IsPath entry.path
  pub plain : All (λ byte. (byte ≢ 58) × (byte ≢ 44)) entry.path
  pub some : entry.methods ≢ []
  pub apart : AreApart entry.methods

-- the text is that of these entries, one or more
pub record IsScopeText (text : List ℕ) (entries : List Written) : Type 0 where
  pub spelled : text ≡ scope_text entries
  pub some : entries ≢ []
  pub lawful : All IsLawfulText entries

-- the permissions of an entry: each of its methods
abbrev pub permissions_written : Written → List Permission
permissions_written entry = map (λ method. record { path = entry.path; below = entry.below; method = method }) entry.methods

-- what the entries stand for
abbrev pub scope_written : List Written → Scope
scope_written entries = set.from_list (flat_map permissions_written entries)

abbrev pub below_bit : Bool → ℕ
below_bit true = 16
below_bit false = 0

-- an entry of bytes: the methods as a set
abbrev pub entry_of : Written → Entry
entry_of entry = record { path = entry.path; mask = sum_by bit_of entry.methods + below_bit entry.below }
