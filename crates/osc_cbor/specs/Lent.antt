-- Items in their bytes: which item they spell, and which items or pairs are there one after the other.
use Rattle.std.specs.Prelude.{◌≡◌, ℕ, zero, suc, ◌≤◌, List, [], ◌∷◌, ◌++◌, Ok, Err}
use Rattle.osc_cbor.specs.Data.{DataItem, unsigned, negative, byte_string, text_string, array, map, tag, bool, null, Items, Pairs, item_count, pair_count, nesting, items_nesting, pairs_nesting, most_nesting}
use Rattle.osc_cbor.specs.Reading.{Found, item_at}
use Rattle.osc_cbor.specs.Spelling.{Spells, SpellsItems, SpellsPairs}

-- what was read, and null where nothing was
abbrev pub item_of : Found → DataItem
item_of (Ok x) = x.0
item_of (Err e) = null

abbrev pub rest_of : Found → List ℕ
rest_of (Ok x) = x.1
rest_of (Err e) = []

-- the item that the bytes spell, all of them
abbrev pub item_in : List ℕ → DataItem
item_in bytes = item_of (item_at 9 bytes)

-- this number of items, one after the other
abbrev pub items_in : ℕ → List ℕ → List DataItem
items_in zero bytes = []
items_in (suc n) bytes = item_in bytes ∷ items_in n (rest_of (item_at 9 bytes))

-- this number of keys, each with its value
abbrev pub pairs_in : ℕ → List ℕ → List (DataItem × DataItem)
pairs_in zero bytes = []
pairs_in (suc n) bytes =
    let behind_key = rest_of (item_at 9 bytes) in
    (item_in bytes, item_in behind_key) ∷ pairs_in n (rest_of (item_at 9 behind_key))

-- an item is at the beginning of the bytes
pub record Stands (bytes : List ℕ) : Type 0 where
  pub first : DataItem
  pub front : List ℕ
  pub rest : List ℕ
  pub spelled : Spells front first
  pub shallow : nesting first ≤ most_nesting
  pub whole : bytes ≡ front ++ rest

-- the bytes are `count` items
pub record AreItems (count : ℕ) (bytes : List ℕ) : Type 0 where
  pub items : Items
  pub spelled : SpellsItems bytes items
  pub counted : item_count items ≡ count
  pub shallow : items_nesting items ≤ most_nesting

-- the bytes are `count` keys, each with its value
pub record ArePairs (count : ℕ) (bytes : List ℕ) : Type 0 where
  pub pairs : Pairs
  pub spelled : SpellsPairs bytes pairs
  pub counted : pair_count pairs ≡ count
  pub shallow : pairs_nesting pairs ≤ most_nesting

-- what the head of an item, its string and the bytes after it say of the item
abbrev pub Opens : DataItem → ℕ → ℕ → List ℕ → List ℕ → Type 0
Opens (unsigned n) major argument content inner = (major ≡ 0) × (argument ≡ n)
Opens (negative n) major argument content inner = (major ≡ 1) × (argument ≡ n)
Opens (byte_string bytes) major argument content inner = (major ≡ 2) × (content ≡ bytes)
Opens (text_string bytes) major argument content inner = (major ≡ 3) × (content ≡ bytes)
Opens (array ds) major argument content inner = (major ≡ 4) × (argument ≡ item_count ds) × SpellsItems inner ds
Opens (map ps) major argument content inner = (major ≡ 5) × (argument ≡ pair_count ps) × SpellsPairs inner ps
Opens (tag n d) major argument content inner = (major ≡ 6) × (argument ≡ n) × Spells inner d
Opens (bool b) major argument content inner = major ≡ 7
Opens null major argument content inner = major ≡ 7
