-- What an item holds, if it is of one kind.
use Rattle.std.specs.Prelude.{ℕ, Option, Some, None, option_and_then, List}
use Rattle.osc_cbor.specs.Data.{DataItem, unsigned, negative, byte_string, text_string, array, map, tag, Items, Pairs, value_under}

abbrev pub as_unsigned : DataItem → Option ℕ
as_unsigned (unsigned n) = Some n
as_unsigned _ = None

abbrev pub as_negative : DataItem → Option ℕ
as_negative (negative n) = Some n
as_negative _ = None

abbrev pub as_bytes : DataItem → Option (List ℕ)
as_bytes (byte_string content) = Some content
as_bytes _ = None

abbrev pub as_text : DataItem → Option (List ℕ)
as_text (text_string content) = Some content
as_text _ = None

abbrev pub as_array : DataItem → Option Items
as_array (array ds) = Some ds
as_array _ = None

abbrev pub as_map : DataItem → Option Pairs
as_map (map ps) = Some ps
as_map _ = None

-- the tag's number, and the item under it
abbrev pub as_tag : DataItem → Option (ℕ × DataItem)
as_tag (tag n d) = Some (n, d)
as_tag _ = None

-- the value under an unsigned number in a map
abbrev pub value : ℕ → DataItem → Option DataItem
value label d = option_and_then (value_under label) (as_map d)
