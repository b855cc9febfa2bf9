-- What items look like, level by level.
use Rattle.std.proofs.Common.{◌≡◌, ℕ, suc, ◌+◌, ◌<◌, List, [], ◌∷◌, ◌++◌, length, get_or, drop, Vec, Global, refl, ap, rules}
use Rattle.std.proofs.lemmas.List.{drop_more}
use Rattle.osc_cbor.specs.{map, item, pair, item_count, pair_count, view, items_view, pairs_view, push_item, push_pair}
use Rattle.osc_cbor.specs.declared.item.Item.{Item, the_lemmas}
use Rattle.osc_cbor.specs.declared.item.Item.TheVariants as code

-- one more item at the end
pub items_view-push : (ds : List Item) (d : Item) → items_view (ds ++ d ∷ []) ≡ push_item (items_view ds) (view d)
items_view-push [] d = refl
items_view-push (x ∷ ds) d = ap (item (view x)) (items_view-push ds d)

pub pairs_view-push : (ps : List (Item × Item)) (k v : Item) → pairs_view (ps ++ (k, v) ∷ []) ≡ push_pair (pairs_view ps) (view k) (view v)
pairs_view-push [] k v = refl
pairs_view-push (p ∷ ps) k v = ap (pair (view p.0) (view p.1)) (pairs_view-push ps k v)

-- how many there are
pub item_count-view : (ds : List Item) → item_count (items_view ds) ≡ length ds
item_count-view [] = refl
item_count-view (d ∷ ds) = ap suc (item_count-view ds)

pub pair_count-view : (ps : List (Item × Item)) → pair_count (pairs_view ps) ≡ length ps
pair_count-view [] = refl
pair_count-view (p ∷ ps) = ap suc (pair_count-view ps)

-- an item at an index, and those after it
pub items_view-drop : (ds : List Item) (i : ℕ) (d : Item) → i < length ds → items_view (drop i ds) ≡ item (view (get_or ds i d)) (items_view (drop (i + 1) ds))
items_view-drop ds i d h = rw (drop_more ds i d h)

pub pairs_view-drop : (ps : List (Item × Item)) (i : ℕ) (p : Item × Item) → i < length ps → pairs_view (drop i ps) ≡ pair (view (get_or ps i p).0) (view (get_or ps i p).1) (pairs_view (drop (i + 1) ps))
pairs_view-drop ps i p h = rw (drop_more ps i p h)

-- a map, one level
pub view-Map : (v : Vec (Item × Item) Global) → view (code.Map v) ≡ map (pairs_view v.items)
view-Map v = search (rules, the_lemmas)
