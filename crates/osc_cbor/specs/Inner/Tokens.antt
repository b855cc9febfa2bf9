-- An item as its heads, each with the string after it: how items are skipped and compared in their bytes. No public
-- contract rests on this.
use Rattle.std.specs.Prelude.{◌≡◌, ℕ, ◌*◌, ◌/◌, ◌%◌, ◌==◌, ◌||◌, if◌then◌else◌, List, [], ◌∷◌, ◌++◌, length, Result, Ok, Err}
use Rattle.osc_cbor.specs.Data.{DataItem, unsigned, negative, byte_string, text_string, array, map, tag, bool, null, Items, no_items, item, Pairs, no_pairs, pair, item_count, pair_count}
use Rattle.osc_cbor.specs.Same.{has_key}
use Rattle.osc_cbor.specs.Spelling.{SpellsItems, SpellsPairs}
use Rattle.osc_cbor.specs.Reading.{◌>>=◌, argument_at, string_at}
use Rattle.osc_cbor.specs.declared.error.ReadError.{ReadError}
use Rattle.osc_cbor.specs.declared.error.ReadError.TheVariants.{Truncated}

-- major type, argument and string; of a simple value the argument is its five bits
abbrev pub Token : Type 0
Token = ℕ × ℕ × List ℕ

-- after a head with an argument
unfoldable pub token_behind : ℕ → ℕ → List ℕ → Result (Token × List ℕ) ReadError
token_behind major n bytes =
    if (major == 2) || (major == 3) then (string_at n bytes >>= λ x. Ok ((major, n, x.0), x.1)) else Ok ((major, n, []), bytes)

unfoldable pub token_at : List ℕ → Result (Token × List ℕ) ReadError
token_at [] = Err Truncated
token_at (first ∷ bytes) =
    if first / 32 == 7 then Ok ((7, first % 32, []), bytes)
    else (argument_at (first % 32) bytes >>= λ n. token_behind (first / 32) n.0 n.1)

-- the bytes are these, one after the other
abbrev pub Stream : List ℕ → List Token → Type 0
Stream bytes [] = bytes ≡ []
Stream bytes (t ∷ ts) = (rest : List ℕ) × (token_at bytes ≡ Ok (t, rest)) × Stream rest ts

-- those of an item, and others after
abbrev mutual
  pub tokens : DataItem → List Token → List Token
  tokens (unsigned n) ts = (0, n, []) ∷ ts
  tokens (negative n) ts = (1, n, []) ∷ ts
  tokens (byte_string content) ts = (2, length content, content) ∷ ts
  tokens (text_string content) ts = (3, length content, content) ∷ ts
  tokens (array ds) ts = (4, item_count ds, []) ∷ items_tokens ds ts
  tokens (map ps) ts = (5, pair_count ps, []) ∷ pairs_tokens ps ts
  tokens (tag n d) ts = (6, n, []) ∷ tokens d ts
  tokens (bool b) ts = (7, if b then 21 else 20, []) ∷ ts
  tokens null ts = (7, 22, []) ∷ ts

  pub items_tokens : Items → List Token → List Token
  items_tokens no_items ts = ts
  items_tokens (item d ds) ts = tokens d (items_tokens ds ts)

  pub pairs_tokens : Pairs → List Token → List Token
  pairs_tokens no_pairs ts = ts
  pairs_tokens (pair k v ps) ts = tokens k (tokens v (pairs_tokens ps ts))

-- how many items are inside
unfoldable pub inside : ℕ → ℕ → ℕ
inside major n = if major == 4 then n else if major == 5 then 2 * n else if major == 6 then 1 else 0

-- what is left of two rows of tokens is equal exactly where they were
pub record Alike (ts us : List Token) (a b : List ℕ) : Type 0 where
  pub more : List Token
  pub others : List Token
  pub is_more : Stream a more
  pub is_others : Stream b others
  pub same : ts ≡ us → more ≡ others
  pub back : more ≡ others → ts ≡ us

-- `count` items are before the rest
pub record Pending (count : ℕ) (bytes rest : List ℕ) : Type 0 where
  pub items : Items
  pub front : List ℕ
  pub spelled : SpellsItems front items
  pub counted : item_count items ≡ count
  pub whole : bytes ≡ front ++ rest

-- `count` pairs are before the rest, and this key is one of theirs exactly where it was one of all
pub record Keys (k : DataItem) (ps : Pairs) (count : ℕ) (bytes rest : List ℕ) : Type 0 where
  pub more : Pairs
  pub front : List ℕ
  pub spelled : SpellsPairs front more
  pub counted : pair_count more ≡ count
  pub whole : bytes ≡ front ++ rest
  pub same : has_key k more ≡ has_key k ps
