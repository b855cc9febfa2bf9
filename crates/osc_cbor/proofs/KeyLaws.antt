-- Keys, items and pairs one after the other.
use Rattle.std.proofs.Common.{◌≡◌, ◌⊎◌, ℕ, Bool, true, false, ◌&&◌, ◌==◌, List, [], ◌∷◌, refl, sym, ap, ap₂, subst, ◌∙◌, inl, inr}
use Rattle.std.specs.Str.{bytes_eq}
use Rattle.std.specs.Bool.{beq}
use Rattle.std.proofs.lemmas.Bool.{and_parts, or_cases, or_left, or_right, eqb-true, eq-eqb, false≢true, both_ways}
use Rattle.osc_cbor.specs.{DataItem, unsigned, negative, byte_string, text_string, array, map, tag, bool, null, Items, no_items, item, Pairs, no_pairs, pair, HasKey, HasOwnKeys, same, same_items, same_pairs, has_key, push_item, push_pair}

-- ---- equal items

bytes_same : (a b : List ℕ) → bytes_eq a b ≡ true → a ≡ b
bytes_same [] [] e = refl
bytes_same [] (y ∷ b) e = absurd (false≢true e)
bytes_same (x ∷ a) [] e = absurd (false≢true e)
bytes_same (x ∷ a) (y ∷ b) e = let p = and_parts (x == y) (bytes_eq a b) e in ap₂ (λ (u : ℕ) (v : List ℕ). u ∷ v) (eqb-true x y p.0) (bytes_same a b p.1)

bytes_itself : (a : List ℕ) → bytes_eq a a ≡ true
bytes_itself [] = refl
bytes_itself (x ∷ a) = rw (eq-eqb x x refl, bytes_itself a) refl

bools_same : (a b : Bool) → beq a b ≡ true → a ≡ b
bools_same true true e = refl
bools_same false false e = refl
bools_same true false e = absurd (false≢true e)
bools_same false true e = absurd (false≢true e)

bool_itself : (a : Bool) → beq a a ≡ true
bool_itself true = refl
bool_itself false = refl

mutual
  pub same_means : (d e : DataItem) → same d e ≡ true → d ≡ e
  same_means (unsigned n) (unsigned m) h = ap unsigned (eqb-true n m h)
  same_means (negative n) (negative m) h = ap negative (eqb-true n m h)
  same_means (byte_string a) (byte_string b) h = ap byte_string (bytes_same a b h)
  same_means (text_string a) (text_string b) h = ap text_string (bytes_same a b h)
  same_means (array ds) (array es) h = ap array (items_mean ds es h)
  same_means (map ps) (map qs) h = ap map (pairs_mean ps qs h)
  same_means (tag n d) (tag m e) h = let p = and_parts (n == m) (same d e) h in ap₂ tag (eqb-true n m p.0) (same_means d e p.1)
  same_means (bool a) (bool b) h = ap bool (bools_same a b h)
  same_means null null h = refl
  same_means _ _ h = absurd (false≢true h)

  pub items_mean : (ds es : Items) → same_items ds es ≡ true → ds ≡ es
  items_mean no_items no_items h = refl
  items_mean (item d ds) (item e es) h = let p = and_parts (same d e) (same_items ds es) h in ap₂ item (same_means d e p.0) (items_mean ds es p.1)
  items_mean _ _ h = absurd (false≢true h)

  pub pairs_mean : (ps qs : Pairs) → same_pairs ps qs ≡ true → ps ≡ qs
  pairs_mean no_pairs no_pairs h = refl
  pairs_mean (pair k v ps) (pair l w qs) h =
      let p = and_parts (same k l) (same v w && same_pairs ps qs) h in
      let q = and_parts (same v w) (same_pairs ps qs) p.1 in
      ap (λ x. pair x v ps) (same_means k l p.0) ∙ ap₂ (pair l) (same_means v w q.0) (pairs_mean ps qs q.1)
  pairs_mean _ _ h = absurd (false≢true h)

mutual
  pub same_itself : (d : DataItem) → same d d ≡ true
  same_itself (unsigned n) = eq-eqb n n refl
  same_itself (negative n) = eq-eqb n n refl
  same_itself (byte_string a) = bytes_itself a
  same_itself (text_string a) = bytes_itself a
  same_itself (array ds) = items_themselves ds
  same_itself (map ps) = pairs_themselves ps
  same_itself (tag n d) = rw (eq-eqb n n refl, same_itself d) refl
  same_itself (bool a) = bool_itself a
  same_itself null = refl

  pub items_themselves : (ds : Items) → same_items ds ds ≡ true
  items_themselves no_items = refl
  items_themselves (item d ds) = rw (same_itself d, items_themselves ds) refl

  pub pairs_themselves : (ps : Pairs) → same_pairs ps ps ≡ true
  pairs_themselves no_pairs = refl
  pairs_themselves (pair k v ps) = rw (same_itself k, same_itself v, pairs_themselves ps) refl

-- ---- keys

pub key_means : (key : DataItem) (ps : Pairs) → has_key key ps ≡ true → HasKey key ps
key_means key no_pairs h = absurd (false≢true h)
key_means key (pair k v ps) h =
    elim (or_cases (same key k) (has_key key ps) h) [
      | inl here ↦ inl (same_means key k here)
      | inr later ↦ inr (key_means key ps later)
    ]

pub key_found : (key : DataItem) (ps : Pairs) → HasKey key ps → has_key key ps ≡ true
key_found key no_pairs h = absurd h
key_found key (pair k v ps) (inl here) = or_left (same key k) (has_key key ps) (ap (same key) (sym here) ∙ same_itself key)
key_found key (pair k v ps) (inr later) = or_right (same key k) (has_key key ps) (key_found key ps later)

pub key_absent : (key : DataItem) (ps : Pairs) → has_key key ps ≡ false → ¬ HasKey key ps
key_absent key ps h has = both_ways (has_key key ps) h (key_found key ps has)

pub key_missing : (key : DataItem) (ps : Pairs) → ¬ HasKey key ps → has_key key ps ≡ false
key_missing key ps absent = false_if (has_key key ps) (λ h. absent (key_means key ps h))
  where
    false_if : (b : Bool) → (b ≡ true → ⊥) → b ≡ false
    false_if true h = absurd (h refl)
    false_if false h = refl

-- ---- one after the other

abbrev pub join_items : Items → Items → Items
join_items no_items es = es
join_items (item d ds) es = item d (join_items ds es)

pub join_items-push : (before : Items) (d : DataItem) (es : Items) → join_items (push_item before d) es ≡ join_items before (item d es)
join_items-push no_items d es = refl
join_items-push (item e before) d es = ap (item e) (join_items-push before d es)

pub join_items-none : (ds : Items) → join_items ds no_items ≡ ds
join_items-none no_items = refl
join_items-none (item d ds) = ap (item d) (join_items-none ds)

abbrev pub join_pairs : Pairs → Pairs → Pairs
join_pairs no_pairs qs = qs
join_pairs (pair k v ps) qs = pair k v (join_pairs ps qs)

pub join_pairs-push : (before : Pairs) (k v : DataItem) (qs : Pairs) → join_pairs (push_pair before k v) qs ≡ join_pairs before (pair k v qs)
join_pairs-push no_pairs k v qs = refl
join_pairs-push (pair l w before) k v qs = ap (pair l w) (join_pairs-push before k v qs)

pub join_pairs-none : (ps : Pairs) → join_pairs ps no_pairs ≡ ps
join_pairs-none no_pairs = refl
join_pairs-none (pair k v ps) = ap (pair k v) (join_pairs-none ps)

-- a key of the joined pairs is one of the first or of the second
key_of_pushed : (key : DataItem) (ps : Pairs) (k v : DataItem) → HasKey key (push_pair ps k v) → HasKey key ps ⊎ (key ≡ k)
key_of_pushed key no_pairs k v (inl h) = inr h
key_of_pushed key no_pairs k v (inr h) = absurd h
key_of_pushed key (pair l w ps) k v (inl h) = inl (inl h)
key_of_pushed key (pair l w ps) k v (inr h) =
    elim (key_of_pushed key ps k v h) [
      | inl before ↦ inl (inr before)
      | inr same ↦ inr same
    ]

pub own_pushed : (ps : Pairs) (k v : DataItem) → HasOwnKeys ps → ¬ HasKey k ps → HasOwnKeys (push_pair ps k v)
own_pushed no_pairs k v own new = (λ h. h, tt)
own_pushed (pair l w ps) k v own new = (
  λ h. elim (key_of_pushed l ps k v h) [
    | inl again ↦ own.0 again
    | inr same ↦ new (inl (sym same))
  ],
  own_pushed ps k v own.1 (λ h. new (inr h)),
)

key_joined : (key : DataItem) (ps : Pairs) (v : DataItem) (qs : Pairs) → HasKey key (join_pairs ps (pair key v qs))
key_joined key no_pairs v qs = inl refl
key_joined key (pair l w ps) v qs = inr (key_joined key ps v qs)

pub own_middle : (ps : Pairs) (k v : DataItem) (qs : Pairs) → HasOwnKeys (join_pairs ps (pair k v qs)) → ¬ HasKey k ps
own_middle no_pairs k v qs own h = h
own_middle (pair l w ps) k v qs own (inl is) = own.0 (subst (λ (x : DataItem). HasKey x (join_pairs ps (pair k v qs))) is (key_joined k ps v qs))
own_middle (pair l w ps) k v qs own (inr later) = own_middle ps k v qs own.1 later
