-- The data item that an `Item` is.
use Rattle.std.specs.Prelude.{List, [], ◌∷◌, map, string_bytes, box_value}
use Rattle.osc_cbor.specs.Data as cbor
use Rattle.osc_cbor.specs.Data.{DataItem, Items, no_items, item, Pairs, no_pairs, pair}
use Rattle.osc_cbor.specs.declared.item.Item.{Item, fold-Item}
use Rattle.osc_cbor.specs.declared.item.Item.TheOpen.{Item-F}

abbrev pub items_of : List DataItem → Items
items_of [] = no_items
items_of (d ∷ ds) = item d (items_of ds)

abbrev pub pairs_of : List (DataItem × DataItem) → Pairs
pairs_of [] = no_pairs
pairs_of (p ∷ ps) = pair p.0 p.1 (pairs_of ps)

-- one level, with each item inside already seen
abbrev pub view_step : Item-F DataItem → DataItem
view_step (Item-F.Unsigned n) = cbor.unsigned n
view_step (Item-F.Negative n) = cbor.negative n
view_step (Item-F.Bytes content) = cbor.byte_string content.items
view_step (Item-F.Text content) = cbor.text_string (string_bytes content)
view_step (Item-F.Array ds) = cbor.array (items_of ds.items)
view_step (Item-F.Map ps) = cbor.map (pairs_of ps.items)
view_step (Item-F.Tag n d) = cbor.tag n (box_value d)
view_step (Item-F.Bool b) = cbor.bool b
view_step Item-F.Null = cbor.null

abbrev pub view : Item → DataItem
view = fold-Item DataItem view_step

abbrev pub items_view : List Item → Items
items_view ds = items_of (map view ds)

abbrev pub pairs_view : List (Item × Item) → Pairs
pairs_view ps = pairs_of (map (λ p. (view p.0, view p.1)) ps)
