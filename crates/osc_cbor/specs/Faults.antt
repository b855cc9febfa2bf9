-- Why no beginning of some bytes is an item: the first fault in the order of the bytes. Nesting is judged at an item's first
-- byte and before all else there, a text at its last byte, a repeated key at the key's last byte.
use Rattle.std.specs.Prelude.{◌≡◌, ◌≢◌, ℕ, zero, suc, ◌+◌, ◌*◌, ◌≤◌, ◌<◌, List, [], ◌∷◌, ◌++◌, length}
use Rattle.std.specs.Str.{IsUtf8}
use Rattle.osc_cbor.specs.Data.{DataItem, Items, Pairs, item_count, pair_count, HasKey, HasOwnKeys, nesting, items_nesting, pairs_nesting}
use Rattle.osc_cbor.specs.Spelling.{Spells, SpellsItems, SpellsPairs, Follows}
use Rattle.osc_cbor.specs.declared.error.ReadError.{ReadError}
use Rattle.osc_cbor.specs.declared.error.ReadError.TheVariants.{Truncated, Unsupported, DuplicateKey, TooDeep}

-- how many bytes of argument five bits ask for (RFC 8949 section 3)
pub data IsExtended (bits size : ℕ) : Type 0 where
  by_one : bits ≡ 24 → size ≡ 1 → IsExtended bits size
  by_two : bits ≡ 25 → size ≡ 2 → IsExtended bits size
  by_four : bits ≡ 26 → size ≡ 4 → IsExtended bits size
  by_eight : bits ≡ 27 → size ≡ 8 → IsExtended bits size

-- A first byte that begins no item of the subset: reserved bits and indefinite lengths (28 to 31), and of the major type 7
-- all but false, true and null.
pub data IsUnsupported (major bits : ℕ) : Type 0 where
  reserved : 28 ≤ bits → IsUnsupported major bits
  no_simple_value : major ≡ 7 → bits ≢ 20 → bits ≢ 21 → bits ≢ 22 → IsUnsupported major bits

-- the head ends in a fault
pub data HeadFails (bytes : List ℕ) (fault : ReadError) : Type 0 where
  no_byte : bytes ≡ [] → fault ≡ Truncated → HeadFails bytes fault
  unsupported : (major bits : ℕ) (rest : List ℕ)
      → bytes ≡ (32 * major + bits) ∷ rest → bits < 32 → IsUnsupported major bits → fault ≡ Unsupported → HeadFails bytes fault
  cut_short : (major bits size : ℕ) (rest : List ℕ)
      → bytes ≡ (32 * major + bits) ∷ rest → major < 7 → IsExtended bits size → length rest < size → fault ≡ Truncated → HeadFails bytes fault

-- a string ends before its length, or a text isn't UTF-8
pub data StringFails (bytes : List ℕ) (fault : ReadError) : Type 0 where
  bytes_end : (size : ℕ) → Follows 2 size (λ rest. length rest < size) bytes → fault ≡ Truncated → StringFails bytes fault
  text_ends : (size : ℕ) → Follows 3 size (λ rest. length rest < size) bytes → fault ≡ Truncated → StringFails bytes fault
  not_utf8 : (content rest : List ℕ)
      → Follows 3 (length content) (λ after. after ≡ content ++ rest) bytes → ¬ IsUtf8 content → fault ≡ Unsupported → StringFails bytes fault

-- `Inner` says which fault an item one level further in ends in, and `left` how many levels are left for it.
module _ (left : ℕ) (Inner : List ℕ → ReadError → Type 0) where
  -- the items before it are read, and then one is not
  pub record ItemsFail (count : ℕ) (bytes : List ℕ) (fault : ReadError) : Type 0 where
    pub before : Items
    pub front : List ℕ
    pub rest : List ℕ
    pub spelled : SpellsItems front before
    pub shallow : items_nesting before ≤ left
    pub fewer : item_count before < count
    pub fails : Inner rest fault
    pub whole : bytes ≡ front ++ rest

  -- a key can't be read; or it is that of a pair before; or its value can't be read
  pub data PairFails (before : Pairs) (bytes : List ℕ) (fault : ReadError) : Type 0 where
    key_fails : Inner bytes fault → PairFails before bytes fault
    key_again : (key : DataItem) (front rest : List ℕ)
        → Spells front key → nesting key < left → bytes ≡ front ++ rest → HasKey key before → fault ≡ DuplicateKey → PairFails before bytes fault
    value_fails : (key : DataItem) (front rest : List ℕ)
        → Spells front key → nesting key < left → bytes ≡ front ++ rest → ¬ HasKey key before → Inner rest fault → PairFails before bytes fault

  -- the pairs before it are read, and then one is not
  pub record PairsFail (count : ℕ) (bytes : List ℕ) (fault : ReadError) : Type 0 where
    pub before : Pairs
    pub front : List ℕ
    pub rest : List ℕ
    pub spelled : SpellsPairs front before
    pub own_keys : HasOwnKeys before
    pub shallow : pairs_nesting before ≤ left
    pub fewer : pair_count before < count
    pub fails : PairFails before rest fault
    pub whole : bytes ≡ front ++ rest

  -- an item that is in no more than the levels that are left ends in a fault
  pub data ItemFails (bytes : List ℕ) (fault : ReadError) : Type 0 where
    in_head : HeadFails bytes fault → ItemFails bytes fault
    in_string : StringFails bytes fault → ItemFails bytes fault
    in_array : (count : ℕ) → Follows 4 count (λ rest. ItemsFail count rest fault) bytes → ItemFails bytes fault
    in_map : (count : ℕ) → Follows 5 count (λ rest. PairsFail count rest fault) bytes → ItemFails bytes fault
    in_tag : (number : ℕ) → Follows 6 number (λ rest. Inner rest fault) bytes → ItemFails bytes fault

-- an item is too deep: judged where it has a first byte
pub data TooDeepFails (bytes : List ℕ) (fault : ReadError) : Type 0 where
  no_byte : bytes ≡ [] → fault ≡ Truncated → TooDeepFails bytes fault
  too_deep : bytes ≢ [] → fault ≡ TooDeep → TooDeepFails bytes fault

-- The fault in which an item ends that has this number of levels left: one is needed for itself.
unfoldable pub Fails : ℕ → List ℕ → ReadError → Type 0
Fails zero bytes fault = TooDeepFails bytes fault
Fails (suc left) bytes fault = ItemFails left (Fails left) bytes fault
