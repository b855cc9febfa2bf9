-- Reading from left to right, with the first fault that is met: the way from the code to the spelling. No public contract
-- rests on this.
use Rattle.std.specs.Prelude.{◌≡◌, ℕ, zero, suc, ◌/◌, ◌%◌, true, false, nat_lt, ◌==◌, if◌then◌else◌, List, [], ◌∷◌, length, take, drop, Result, Ok, Err, Option, Some, None}
use Rattle.std.specs.Int.{Width, w8, w16, w32, w64, byte_len, from_be_bytes}
use Rattle.std.specs.Str.{is_utf8}
use Rattle.osc_cbor.specs.Data.{DataItem, unsigned, negative, byte_string, text_string, array, map, tag, bool, null, Items, no_items, item, Pairs, no_pairs, pair}
use Rattle.osc_cbor.specs.Same.{has_key}
use Rattle.osc_cbor.specs.declared.heads.Major.{Major}
use Rattle.osc_cbor.specs.declared.heads.Major.TheVariants.{Unsigned, Negative, Bytes, Text, Array, Map, Tag}
use Rattle.osc_cbor.specs.declared.error.ReadError.{ReadError}
use Rattle.osc_cbor.specs.declared.error.ReadError.TheVariants.{Truncated, Unsupported, DuplicateKey, TooDeep, Memory}

infixl 10 ◌>>=◌
abbrev pub ◌>>=◌ : {A B : Type 0} → Result A ReadError → (A → Result B ReadError) → Result B ReadError
(Ok x) >>= f = f x
(Err e) >>= f = Err e

-- What a function returned, seen by view, is what reading gives, unless memory ran out.
abbrev pub Refuses : {Y : Type 0} → ReadError → Result Y ReadError → Type 0
Refuses Memory read = Unit {0}
Refuses Truncated read = read ≡ Err Truncated
Refuses Unsupported read = read ≡ Err Unsupported
Refuses DuplicateKey read = read ≡ Err DuplicateKey
Refuses TooDeep read = read ≡ Err TooDeep

abbrev pub Gives : {X Y : Type 0} → (X → Y) → Result X ReadError → Result Y ReadError → Type 0
Gives view (Ok x) read = read ≡ Ok (view x)
Gives view (Err e) read = Refuses e read

-- the same where no memory is asked for
abbrev pub Reads : {X Y : Type 0} → (X → Y) → Result X ReadError → Result Y ReadError → Type 0
Reads view (Ok x) read = read ≡ Ok (view x)
Reads view (Err e) read = read ≡ Err e

-- ---- heads

abbrev pub number_at : Width → List ℕ → Result (ℕ × List ℕ) ReadError
number_at w bytes = if nat_lt (length bytes) (byte_len w) then Err Truncated else Ok (from_be_bytes w (take (byte_len w) bytes), drop (byte_len w) bytes)

-- the argument that five bits stand for, and the bytes after it
unfoldable pub argument_at : ℕ → List ℕ → Result (ℕ × List ℕ) ReadError
argument_at bits bytes =
    if nat_lt bits 24 then Ok (bits, bytes)
    else if bits == 24 then number_at w8 bytes
    else if bits == 25 then number_at w16 bytes
    else if bits == 26 then number_at w32 bytes
    else if bits == 27 then number_at w64 bytes
    else Err Unsupported

-- the major type of three bits; 7 is that of simple values
abbrev pub major_of : ℕ → Option Major
major_of zero = Some Unsigned
major_of (suc zero) = Some Negative
major_of (suc (suc zero)) = Some Bytes
major_of (suc (suc (suc zero))) = Some Text
major_of (suc (suc (suc (suc zero)))) = Some Array
major_of (suc (suc (suc (suc (suc zero))))) = Some Map
major_of (suc (suc (suc (suc (suc (suc zero)))))) = Some Tag
major_of (suc (suc (suc (suc (suc (suc (suc n))))))) = None

-- ---- contents

abbrev pub Found : Type 0
Found = Result (DataItem × List ℕ) ReadError

unfoldable pub simple_at : ℕ → List ℕ → Found
simple_at bits bytes =
    if bits == 20 then Ok (bool false, bytes)
    else if bits == 21 then Ok (bool true, bytes)
    else if bits == 22 then Ok (null, bytes)
    else Err Unsupported

unfoldable pub string_at : ℕ → List ℕ → Result (List ℕ × List ℕ) ReadError
string_at size bytes = if nat_lt (length bytes) size then Err Truncated else Ok (take size bytes, drop size bytes)

unfoldable pub text_at : ℕ → List ℕ → Result (List ℕ × List ℕ) ReadError
text_at size bytes = do
  content ← string_at size bytes
  if is_utf8 content.0 then Ok content else Err Unsupported

-- one more at the end
abbrev pub push_item : Items → DataItem → Items
push_item no_items d = item d no_items
push_item (item e es) d = item e (push_item es d)

abbrev pub push_pair : Pairs → DataItem → DataItem → Pairs
push_pair no_pairs k v = pair k v no_pairs
push_pair (pair l w ps) k v = pair l w (push_pair ps k v)

-- this number of items, each read by `inner`, after those before
unfoldable pub items_from : (List ℕ → Found) → Items → ℕ → List ℕ → Result (Items × List ℕ) ReadError
items_from inner before zero bytes = Ok (before, bytes)
items_from inner before (suc n) bytes = do
  d ← inner bytes
  items_from inner (push_item before d.0) n d.1

unfoldable pub pairs_from : (List ℕ → Found) → Pairs → ℕ → List ℕ → Result (Pairs × List ℕ) ReadError
pairs_from inner before zero bytes = Ok (before, bytes)
pairs_from inner before (suc n) bytes = do
  k ← inner bytes
  if has_key k.0 before then Err DuplicateKey else (inner k.1 >>= λ v. pairs_from inner (push_pair before k.0 v.0) n v.1)

unfoldable pub content_at : (List ℕ → Found) → Major → ℕ → List ℕ → Found
content_at inner Unsigned n bytes = Ok (unsigned n, bytes)
content_at inner Negative n bytes = Ok (negative n, bytes)
content_at inner Bytes n bytes = string_at n bytes >>= λ x. Ok (byte_string x.0, x.1)
content_at inner Text n bytes = text_at n bytes >>= λ x. Ok (text_string x.0, x.1)
content_at inner Array n bytes = items_from inner no_items n bytes >>= λ x. Ok (array x.0, x.1)
content_at inner Map n bytes = pairs_from inner no_pairs n bytes >>= λ x. Ok (map x.0, x.1)
content_at inner Tag n bytes = inner bytes >>= λ x. Ok (tag n x.0, x.1)

abbrev pub behind_first : (List ℕ → Found) → Option Major → ℕ → List ℕ → Found
behind_first inner None bits bytes = simple_at bits bytes
behind_first inner (Some major) bits bytes = argument_at bits bytes >>= λ n. content_at inner major n.0 n.1

-- an item for which this number of levels is left: one is needed for itself
unfoldable pub item_at : ℕ → List ℕ → Found
item_at left [] = Err Truncated
item_at zero (first ∷ bytes) = Err TooDeep
item_at (suc left) (first ∷ bytes) = behind_first (item_at left) (major_of (first / 32)) (first % 32) bytes

-- ---- the same whatever the keys of maps

unfoldable pub any_pairs_from : (List ℕ → Found) → Pairs → ℕ → List ℕ → Result (Pairs × List ℕ) ReadError
any_pairs_from inner before zero bytes = Ok (before, bytes)
any_pairs_from inner before (suc n) bytes = do
  k ← inner bytes
  inner k.1 >>= λ v. any_pairs_from inner (push_pair before k.0 v.0) n v.1

unfoldable pub any_content_at : (List ℕ → Found) → Major → ℕ → List ℕ → Found
any_content_at inner Unsigned n bytes = Ok (unsigned n, bytes)
any_content_at inner Negative n bytes = Ok (negative n, bytes)
any_content_at inner Bytes n bytes = string_at n bytes >>= λ x. Ok (byte_string x.0, x.1)
any_content_at inner Text n bytes = text_at n bytes >>= λ x. Ok (text_string x.0, x.1)
any_content_at inner Array n bytes = items_from inner no_items n bytes >>= λ x. Ok (array x.0, x.1)
any_content_at inner Map n bytes = any_pairs_from inner no_pairs n bytes >>= λ x. Ok (map x.0, x.1)
any_content_at inner Tag n bytes = inner bytes >>= λ x. Ok (tag n x.0, x.1)

abbrev pub any_behind_first : (List ℕ → Found) → Option Major → ℕ → List ℕ → Found
any_behind_first inner None bits bytes = simple_at bits bytes
any_behind_first inner (Some major) bits bytes = argument_at bits bytes >>= λ n. any_content_at inner major n.0 n.1

unfoldable pub any_item_at : ℕ → List ℕ → Found
any_item_at left [] = Err Truncated
any_item_at zero (first ∷ bytes) = Err TooDeep
any_item_at (suc left) (first ∷ bytes) = any_behind_first (any_item_at left) (major_of (first / 32)) (first % 32) bytes
