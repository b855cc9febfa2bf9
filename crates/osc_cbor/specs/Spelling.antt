-- How items are spelled (RFC 8949 section 3): in which bytes each item may be, and which of them are written.
use Rattle.std.specs.Prelude.{◌≡◌, ℕ, ◌≤◌, ◌<◌, ◌^◌, Bool, if◌then◌else◌, List, [], ◌∷◌, ◌++◌, length, take, ⊤}
use Rattle.std.specs.Str.{IsUtf8}
use Rattle.osc_cbor.specs.Data.{DataItem, unsigned, negative, byte_string, text_string, array, map, tag, bool, null, Items, no_items, item, Pairs, no_pairs, pair, item_count, pair_count, HasOwnKeys, nesting, most_nesting}
use Rattle.osc_cbor.specs.Head.{IsHead, head}

-- false is f4, true is f5 (section 3.3)
abbrev pub simple_byte : Bool → ℕ
simple_byte b = if b then 245 else 244

-- a head and what follows it
pub record Follows (major argument : ℕ) (Rest : List ℕ → Type 0) (bytes : List ℕ) : Type 0 where
  pub front : List ℕ
  pub rest : List ℕ
  pub is_head : IsHead major argument front
  pub is_rest : Rest rest
  pub whole : bytes ≡ front ++ rest

-- these bytes spell this item
abbrev mutual
  pub Spells : List ℕ → DataItem → Type 0
  Spells bytes (unsigned n) = IsHead 0 n bytes
  Spells bytes (negative n) = IsHead 1 n bytes
  Spells bytes (byte_string content) = Follows 2 (length content) (λ rest. rest ≡ content) bytes
  Spells bytes (text_string content) = IsUtf8 content × Follows 3 (length content) (λ rest. rest ≡ content) bytes
  Spells bytes (array ds) = Follows 4 (item_count ds) (λ rest. SpellsItems rest ds) bytes
  Spells bytes (map ps) = HasOwnKeys ps × Follows 5 (pair_count ps) (λ rest. SpellsPairs rest ps) bytes
  Spells bytes (tag n d) = Follows 6 n (λ rest. Spells rest d) bytes
  Spells bytes (bool b) = bytes ≡ simple_byte b ∷ []
  Spells bytes null = bytes ≡ 246 ∷ []

  -- one after another
  pub SpellsItems : List ℕ → Items → Type 0
  SpellsItems bytes no_items = bytes ≡ []
  SpellsItems bytes (item d ds) = (front rest : List ℕ) × Spells front d × SpellsItems rest ds × (bytes ≡ front ++ rest)

  pub SpellsPairs : List ℕ → Pairs → Type 0
  SpellsPairs bytes no_pairs = bytes ≡ []
  SpellsPairs bytes (pair k v ps) =
      (key value rest : List ℕ) × Spells key k × Spells value v × SpellsPairs rest ps × (bytes ≡ key ++ value ++ rest)

-- the first `count` bytes spell this item, and it isn't nested too deep
pub record Begins (bytes : List ℕ) (d : DataItem) (count : ℕ) : Type 0 where
  pub within : count ≤ length bytes
  pub spelled : Spells (take count bytes) d
  pub shallow : nesting d ≤ most_nesting

-- the bytes are this one item, all of them, and it isn't nested too deep
pub record IsWhole (bytes : List ℕ) (d : DataItem) : Type 0 where
  pub spelled : Spells bytes d
  pub shallow : nesting d ≤ most_nesting

-- ---- the spelling with the shortest heads (section 4.1)

abbrev mutual
  pub spelling : DataItem → List ℕ
  spelling (unsigned n) = head 0 n
  spelling (negative n) = head 1 n
  spelling (byte_string content) = head 2 (length content) ++ content
  spelling (text_string content) = head 3 (length content) ++ content
  spelling (array ds) = head 4 (item_count ds) ++ items_spelling ds
  spelling (map ps) = head 5 (pair_count ps) ++ pairs_spelling ps
  spelling (tag n d) = head 6 n ++ spelling d
  spelling (bool b) = simple_byte b ∷ []
  spelling null = 246 ∷ []

  pub items_spelling : Items → List ℕ
  items_spelling no_items = []
  items_spelling (item d ds) = spelling d ++ items_spelling ds

  pub pairs_spelling : Pairs → List ℕ
  pairs_spelling no_pairs = []
  pairs_spelling (pair k v ps) = spelling k ++ spelling v ++ pairs_spelling ps

-- What has a spelling: arguments have 64 bits, texts are UTF-8, and no map has equal keys.
abbrev mutual
  pub HasSpelling : DataItem → Type 0
  HasSpelling (unsigned n) = n < 2 ^ 64
  HasSpelling (negative n) = n < 2 ^ 64
  HasSpelling (byte_string content) = length content < 2 ^ 64
  HasSpelling (text_string content) = IsUtf8 content × (length content < 2 ^ 64)
  HasSpelling (array ds) = (item_count ds < 2 ^ 64) × HaveSpellings ds
  HasSpelling (map ps) = HasOwnKeys ps × (pair_count ps < 2 ^ 64) × PairsHaveSpellings ps
  HasSpelling (tag n d) = (n < 2 ^ 64) × HasSpelling d
  HasSpelling (bool b) = ⊤
  HasSpelling null = ⊤

  pub HaveSpellings : Items → Type 0
  HaveSpellings no_items = ⊤
  HaveSpellings (item d ds) = HasSpelling d × HaveSpellings ds

  pub PairsHaveSpellings : Pairs → Type 0
  PairsHaveSpellings no_pairs = ⊤
  PairsHaveSpellings (pair k v ps) = HasSpelling k × HasSpelling v × PairsHaveSpellings ps
