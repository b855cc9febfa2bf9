-- Reading entries, one after another. No public contract rests on this.
use Rattle.std.specs.Prelude.{◌≡◌, ◌≢◌, ℕ, ◌+◌, ◌%◌, ◌≤◌, Bool, false, List, [], ◌++◌, map, Option, Some, None}
use Rattle.std.specs.List.{All, sum_by}
use Rattle.osc_model.specs.{IsPath}
use Rattle.osc_model.specs.declared.code.Method.{Method}
use Rattle.osc_cbor.specs.{DataItem, Items}
use Rattle.osc_scope.specs.Entries.{Entry, IsLawful, bit_of, has, entry_item, entry_items}
use Rattle.osc_scope.specs.Text.{Written, AreApart, name_of, below_word, below_bit, entry_text, entry_of}

-- ---- bytes

abbrev pub entry_with : List ℕ × ℕ → Entry
entry_with pair = record { path = pair.0; mask = pair.1 }

-- a set with one method or more of the four
abbrev pub HasMethods : List ℕ × ℕ → Type 0
HasMethods pair = (1 ≤ pair.1 % 16) × (pair.1 ≤ 31)

abbrev pub grants : ℕ → Option Method → Bool
grants mask None = false
grants mask (Some method) = has mask method

-- the pairs are entries, and the items are those of them
pub record AreEntries (items : Items) (pairs : List (List ℕ × ℕ)) : Type 0 where
  pub lawful : All IsLawful (map entry_with pairs)
  pub spelled : items ≡ entry_items (map entry_with pairs)

-- the same, with these items left of all
pub record AreEntriesBefore (left all : List DataItem) (pairs : List (List ℕ × ℕ)) : Type 0 where
  pub lawful : All IsLawful (map entry_with pairs)
  pub spelled : all ≡ map entry_item (map entry_with pairs) ++ left

-- ---- text

-- an entry that was cut out of a scope's text: that its path is without `,` is known from the cut
pub record IsEntry (entry : Written) : Type 0 where
  pub is_path : IsPath entry.path
  pub no_colon : All (λ byte. byte ≢ 58) entry.path
  pub some : entry.methods ≢ []
  pub apart : AreApart entry.methods

-- the texts are those of entries, and the items too
pub record Says (texts : List (List ℕ)) (items : Items) : Type 0 where
  pub entries : List Written
  pub lawful : All IsEntry entries
  pub spelled : texts ≡ map entry_text entries
  pub written : items ≡ entry_items (map entry_of entries)

-- the texts are the names of methods, none twice, and the number is their set
pub record Names (names : List (List ℕ)) (mask : ℕ) : Type 0 where
  pub methods : List Method
  pub apart : AreApart methods
  pub spelled : names ≡ map name_of methods
  pub counted : mask ≡ sum_by bit_of methods

-- the words are the names of methods, one or more and none twice, and SUB last where the paths below count, and the number is their set
pub record Words (words : List (List ℕ)) (mask : ℕ) : Type 0 where
  pub methods : List Method
  pub below : Bool
  pub some : methods ≢ []
  pub apart : AreApart methods
  pub spelled : words ≡ map name_of methods ++ below_word below
  pub counted : mask ≡ sum_by bit_of methods + below_bit below
