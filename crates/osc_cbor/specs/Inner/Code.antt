-- How an item is told apart from another, for a type that has one as its value: by its heads, each with its string.
use Rattle.std.specs.Prelude.{◌≡◌, ℕ, zero, suc, ◌==◌, if◌then◌else◌, List, [], ◌∷◌, true, false, refl}
use Rattle.std.proofs.Common.{ap, ◌∙◌}
use Rattle.std.specs.Coded.{Coded, code_by, coded×, coded_ℕ, coded_list}
use Rattle.osc_cbor.specs.Data.{DataItem, unsigned, negative, byte_string, text_string, array, map, tag, bool, null, Items, no_items, item, Pairs, no_pairs, pair, item_count, pair_count}
use Rattle.osc_cbor.specs.Inner.Tokens.{Token, tokens, items_tokens, pairs_tokens}

-- The items that heads stand for are found from the last head to the first: a head takes those inside it from the front of
-- the items found so far.
abbrev first_of : Items → DataItem
first_of no_items = null
first_of (item d ds) = d

abbrev others_of : Items → Items
others_of no_items = no_items
others_of (item d ds) = ds

abbrev items_of_front : ℕ → Items → Items
items_of_front zero found = no_items
items_of_front (suc n) found = item (first_of found) (items_of_front n (others_of found))

abbrev pairs_of_front : ℕ → Items → Pairs
pairs_of_front zero found = no_pairs
pairs_of_front (suc n) found = pair (first_of found) (first_of (others_of found)) (pairs_of_front n (others_of (others_of found)))

abbrev items_after : ℕ → Items → Items
items_after zero found = found
items_after (suc n) found = items_after n (others_of found)

abbrev pairs_after : ℕ → Items → Items
pairs_after zero found = found
pairs_after (suc n) found = pairs_after n (others_of (others_of found))

abbrev with_head : Token → Items → Items
with_head (major, n, content) found =
    if major == 0 then item (unsigned n) found
    else if major == 1 then item (negative n) found
    else if major == 2 then item (byte_string content) found
    else if major == 3 then item (text_string content) found
    else if major == 4 then item (array (items_of_front n found)) (items_after n found)
    else if major == 5 then item (map (pairs_of_front n found)) (pairs_after n found)
    else if major == 6 then item (tag n (first_of found)) (others_of found)
    else if n == 20 then item (bool false) found
    else if n == 21 then item (bool true) found
    else item null found

abbrev items_of_heads : List Token → Items
items_of_heads [] = no_items
items_of_heads (t ∷ ts) = with_head t (items_of_heads ts)

-- some items before others
abbrev join : Items → Items → Items
join no_items found = found
join (item d ds) found = item d (join ds found)

abbrev join_pairs : Pairs → Items → Items
join_pairs no_pairs found = found
join_pairs (pair k v ps) found = item k (item v (join_pairs ps found))

front_again : (ds found : Items) → items_of_front (item_count ds) (join ds found) ≡ ds
front_again no_items found = refl
front_again (item d ds) found = ap (item d) (front_again ds found)

after_again : (ds found : Items) → items_after (item_count ds) (join ds found) ≡ found
after_again no_items found = refl
after_again (item d ds) found = after_again ds found

pairs_front_again : (ps : Pairs) (found : Items) → pairs_of_front (pair_count ps) (join_pairs ps found) ≡ ps
pairs_front_again no_pairs found = refl
pairs_front_again (pair k v ps) found = ap (pair k v) (pairs_front_again ps found)

pairs_after_again : (ps : Pairs) (found : Items) → pairs_after (pair_count ps) (join_pairs ps found) ≡ found
pairs_after_again no_pairs found = refl
pairs_after_again (pair k v ps) found = pairs_after_again ps found

mutual
  pub item_again : (d : DataItem) (ts : List Token) → items_of_heads (tokens d ts) ≡ item d (items_of_heads ts)
  item_again (unsigned n) ts = refl
  item_again (negative n) ts = refl
  item_again (byte_string content) ts = refl
  item_again (text_string content) ts = refl
  item_again (array ds) ts =
      let found = items_of_heads ts in
      ap (λ (x : Items). item (array (items_of_front (item_count ds) x)) (items_after (item_count ds) x)) (items_again ds ts)
      ∙ ap (λ (x : Items). item (array x) (items_after (item_count ds) (join ds found))) (front_again ds found)
      ∙ ap (item (array ds)) (after_again ds found)
  item_again (map ps) ts =
      let found = items_of_heads ts in
      ap (λ (x : Items). item (map (pairs_of_front (pair_count ps) x)) (pairs_after (pair_count ps) x)) (pairs_again ps ts)
      ∙ ap (λ (x : Pairs). item (map x) (pairs_after (pair_count ps) (join_pairs ps found))) (pairs_front_again ps found)
      ∙ ap (item (map ps)) (pairs_after_again ps found)
  item_again (tag n d) ts = ap (λ (x : Items). item (tag n (first_of x)) (others_of x)) (item_again d ts)
  item_again (bool true) ts = refl
  item_again (bool false) ts = refl
  item_again null ts = refl

  items_again : (ds : Items) (ts : List Token) → items_of_heads (items_tokens ds ts) ≡ join ds (items_of_heads ts)
  items_again no_items ts = refl
  items_again (item d ds) ts = item_again d (items_tokens ds ts) ∙ ap (item d) (items_again ds ts)

  pairs_again : (ps : Pairs) (ts : List Token) → items_of_heads (pairs_tokens ps ts) ≡ join_pairs ps (items_of_heads ts)
  pairs_again no_pairs ts = refl
  pairs_again (pair k v ps) ts =
      item_again k (tokens v (pairs_tokens ps ts)) ∙ ap (item k) (item_again v (pairs_tokens ps ts) ∙ ap (item v) (pairs_again ps ts))

abbrev pub coded_token : Coded Token
coded_token = code_by (ℕ × (ℕ × List ℕ)) (coded× coded_ℕ (coded× coded_ℕ (coded_list coded_ℕ))) (λ t. (t.0, (t.1, t.2))) (λ p. (p.0, p.1.0, p.1.1)) (λ _. refl)

abbrev pub coded_item : Coded DataItem
coded_item = code_by (List Token) (coded_list coded_token) (λ d. tokens d []) (λ ts. first_of (items_of_heads ts)) (λ d. ap first_of (item_again d []))
