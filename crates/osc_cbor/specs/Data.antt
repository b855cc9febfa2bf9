-- Data items (RFC 8949 section 2), those of the subset: no floating-point numbers, and of the simple values false, true
-- and null alone.
use Rattle.std.specs.Prelude.{◌≡◌, ◌⊎◌, ℕ, zero, suc, Bool, max, ◌==◌, if◌then◌else◌, Option, Some, None, List, ⊤}

mutual
  pub data DataItem : Type 0 where
    unsigned : ℕ → DataItem
    -- of an argument n, the number -1 - n
    negative : ℕ → DataItem
    byte_string : List ℕ → DataItem
    -- a text, as its bytes
    text_string : List ℕ → DataItem
    array : Items → DataItem
    map : Pairs → DataItem
    tag : ℕ → DataItem → DataItem
    bool : Bool → DataItem
    null : DataItem

  pub data Items : Type 0 where
    no_items : Items
    item : DataItem → Items → Items

  -- keys and values, in their order
  pub data Pairs : Type 0 where
    no_pairs : Pairs
    pair : DataItem → DataItem → Pairs → Pairs

abbrev pub item_count : Items → ℕ
item_count no_items = zero
item_count (item d ds) = suc (item_count ds)

abbrev pub pair_count : Pairs → ℕ
pair_count no_pairs = zero
pair_count (pair k v ps) = suc (pair_count ps)

-- ---- keys

-- one of the pairs has this key
abbrev pub HasKey : DataItem → Pairs → Type 0
HasKey key no_pairs = ⊥
HasKey key (pair k v ps) = (key ≡ k) ⊎ HasKey key ps

-- no two pairs have equal keys (section 5.6)
abbrev pub HasOwnKeys : Pairs → Type 0
HasOwnKeys no_pairs = ⊤
HasOwnKeys (pair k v ps) = ¬ HasKey k ps × HasOwnKeys ps

-- the value under a key that is an unsigned number, in the first pair that has it
abbrev pub value_if : ℕ → DataItem → DataItem → Option DataItem → Option DataItem
value_if label (unsigned n) v others = if label == n then Some v else others
value_if label k v others = others

abbrev pub value_under : ℕ → Pairs → Option DataItem
value_under label no_pairs = None
value_under label (pair k v ps) = value_if label k v (value_under label ps)

-- ---- nesting

-- in how many arrays, maps and tags the innermost item is
abbrev mutual
  pub nesting : DataItem → ℕ
  nesting (array ds) = items_nesting ds
  nesting (map ps) = pairs_nesting ps
  nesting (tag n d) = suc (nesting d)
  nesting (unsigned n) = 0
  nesting (negative n) = 0
  nesting (byte_string bytes) = 0
  nesting (text_string bytes) = 0
  nesting (bool b) = 0
  nesting null = 0

  pub items_nesting : Items → ℕ
  items_nesting no_items = 0
  items_nesting (item d ds) = max (suc (nesting d)) (items_nesting ds)

  pub pairs_nesting : Pairs → ℕ
  pairs_nesting no_pairs = 0
  pairs_nesting (pair k v ps) = max (suc (nesting k)) (max (suc (nesting v)) (pairs_nesting ps))

-- the most that is read
abbrev pub most_nesting : ℕ
most_nesting = 8
