-- Whether two items are equal, computed. No public contract rests on this.
use Rattle.std.specs.Prelude.{Bool, true, false, ◌==◌, ◌&&◌, ◌||◌}
use Rattle.std.specs.Str.{bytes_eq}
use Rattle.std.specs.Bool.{beq}
use Rattle.osc_cbor.specs.Data.{DataItem, unsigned, negative, byte_string, text_string, array, map, tag, bool, null, Items, no_items, item, Pairs, no_pairs, pair}

abbrev mutual
  pub same : DataItem → DataItem → Bool
  same (unsigned n) (unsigned m) = n == m
  same (negative n) (negative m) = n == m
  same (byte_string a) (byte_string b) = bytes_eq a b
  same (text_string a) (text_string b) = bytes_eq a b
  same (array ds) (array es) = same_items ds es
  same (map ps) (map qs) = same_pairs ps qs
  same (tag n d) (tag m e) = (n == m) && same d e
  same (bool a) (bool b) = beq a b
  same null null = true
  same _ _ = false

  pub same_items : Items → Items → Bool
  same_items no_items no_items = true
  same_items (item d ds) (item e es) = same d e && same_items ds es
  same_items _ _ = false

  pub same_pairs : Pairs → Pairs → Bool
  same_pairs no_pairs no_pairs = true
  same_pairs (pair k v ps) (pair l w qs) = same k l && (same v w && same_pairs ps qs)
  same_pairs _ _ = false

-- one of the pairs has this key
abbrev pub has_key : DataItem → Pairs → Bool
has_key key no_pairs = false
has_key key (pair k v ps) = same key k || has_key key ps
