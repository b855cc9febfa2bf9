-- Whether two items are equal, step by step.
use Rattle.std.proofs.Common.{◌≡◌, ℕ, suc, ◌+◌, ◌<◌, ◌≤◌, Bool, true, false, ◌&&◌, List, length, get_or, drop, refl, sym, ap, ◌∙◌}
use Rattle.std.proofs.lemmas.List.{drop_all}
use Rattle.osc_cbor.specs.{Items, no_items, item, Pairs, no_pairs, pair, item_count, pair_count, same, same_items, same_pairs, view, items_view, pairs_view}
use Rattle.osc_cbor.specs.declared.item.Item.{Item}
use Rattle.osc_cbor.proofs.Views.{items_view-drop, pairs_view-drop, item_count-view, pair_count-view}

-- an `and` whose second part is false
and_false : (b : Bool) → (b && false) ≡ false
and_false true = refl
and_false false = refl

items_counted : (ds es : Items) → (item_count ds ≡ item_count es → ⊥) → same_items ds es ≡ false
items_counted no_items no_items ne = absurd (ne refl)
items_counted no_items (item e es) ne = refl
items_counted (item d ds) no_items ne = refl
items_counted (item d ds) (item e es) ne = rw (items_counted ds es (λ eq. ne (ap suc eq))) (and_false (same d e))

pub items_differ : (a b : List Item) → (length a ≡ length b → ⊥) → same_items (items_view a) (items_view b) ≡ false
items_differ a b ne = items_counted (items_view a) (items_view b) (λ eq. ne (sym (item_count-view a) ∙ eq ∙ item_count-view b))

pub items_step : (a b : List Item) (i : ℕ) (d e : Item) → i < length a → i < length b
    → same_items (items_view (drop i a)) (items_view (drop i b)) ≡ (same (view (get_or a i d)) (view (get_or b i e)) && same_items (items_view (drop (i + 1) a)) (items_view (drop (i + 1) b)))
items_step a b i d e la lb = rw (items_view-drop a i d la, items_view-drop b i e lb) refl

pub items_end : (a b : List Item) (i : ℕ) → length a ≤ i → length b ≤ i → same_items (items_view (drop i a)) (items_view (drop i b)) ≡ true
items_end a b i la lb = rw (drop_all i a la, drop_all i b lb) refl

pairs_counted : (ps qs : Pairs) → (pair_count ps ≡ pair_count qs → ⊥) → same_pairs ps qs ≡ false
pairs_counted no_pairs no_pairs ne = absurd (ne refl)
pairs_counted no_pairs (pair l w qs) ne = refl
pairs_counted (pair k v ps) no_pairs ne = refl
pairs_counted (pair k v ps) (pair l w qs) ne = rw (pairs_counted ps qs (λ eq. ne (ap suc eq)), and_false (same v w)) (and_false (same k l))

pub pairs_differ : (a b : List (Item × Item)) → (length a ≡ length b → ⊥) → same_pairs (pairs_view a) (pairs_view b) ≡ false
pairs_differ a b ne = pairs_counted (pairs_view a) (pairs_view b) (λ eq. ne (sym (pair_count-view a) ∙ eq ∙ pair_count-view b))

pub pairs_step : (a b : List (Item × Item)) (i : ℕ) (p q : Item × Item) → i < length a → i < length b
    → same_pairs (pairs_view (drop i a)) (pairs_view (drop i b))
    ≡ (same (view (get_or a i p).0) (view (get_or b i q).0) && (same (view (get_or a i p).1) (view (get_or b i q).1) && same_pairs (pairs_view (drop (i + 1) a)) (pairs_view (drop (i + 1) b))))
pairs_step a b i p q la lb = rw (pairs_view-drop a i p la, pairs_view-drop b i q lb) refl

pub pairs_end : (a b : List (Item × Item)) (i : ℕ) → length a ≤ i → length b ≤ i → same_pairs (pairs_view (drop i a)) (pairs_view (drop i b)) ≡ true
pairs_end a b i la lb = rw (drop_all i a la, drop_all i b lb) refl
