-- What ends in a fault is refused for it.
use Rattle.std.proofs.Common.{◌≡◌, ◌≢◌, ℕ, zero, suc, ◌+◌, ◌*◌, ◌/◌, ◌<◌, ◌≤◌, false, List, [], ◌∷◌, ◌++◌, length, Ok, Err, refl, sym, ap, subst, ◌∙◌, append_assoc, arith, inl, inr}
use Rattle.std.specs.Str.{IsUtf8, is_utf8}
use Rattle.std.proofs.lemmas.Bool.{lt-ltb, ne_eqb, cases_lt, false_from_ne_true}
use Rattle.std.proofs.lemmas.Str.{IsUtf8-from_is_utf8}
use Rattle.osc_cbor.specs.{Items, no_items, item, Pairs, no_pairs, pair, item_count, pair_count, HasOwnKeys, items_nesting, pairs_nesting, major_number, SpellsItems, SpellsPairs, Follows, IsExtended, IsUnsupported, reserved, no_simple_value, HeadFails, unsupported, cut_short, StringFails, bytes_end, text_ends, not_utf8, ItemsFail, PairFails, key_fails, key_again, value_fails, PairsFail, ItemFails, in_head, in_string, in_array, in_map, in_tag, TooDeepFails, too_deep, Fails, has_key, ◌>>=◌, Found, argument_at, simple_at, string_at, text_at, items_from, pairs_from, push_item, push_pair, content_at, item_at}
use Rattle.osc_cbor.specs.Faults as faults
use Rattle.osc_cbor.specs.declared.heads.Major.{Major}
use Rattle.osc_cbor.specs.declared.heads.Major.TheVariants.{Bytes, Text, Array, Map, Tag}
use Rattle.osc_cbor.specs.declared.error.ReadError.{ReadError}
use Rattle.osc_cbor.specs.declared.error.ReadError.TheVariants.{Truncated, Unsupported}
use Rattle.osc_cbor.proofs.HeadLaws.{argument_reserved, argument_short, major_at, major_none, major_part, bits_part}
use Rattle.osc_cbor.proofs.KeyLaws.{join_pairs, join_pairs-push, join_pairs-none, own_middle, key_missing, key_found}
use Rattle.osc_cbor.proofs.AgainLaws.{ReadsAgain, string_again, head_again, item_again}
use Rattle.osc_cbor.proofs.ReadSteps.{item_none, item_deep, item_simple, item_behind}

-- what ends in a fault `inner` refuses for it
abbrev pub Faulty : (List ℕ → Found) → (List ℕ → ReadError → Type 0) → Type 0
Faulty inner Inner = (bytes : List ℕ) (e : ReadError) → Inner bytes e → inner bytes ≡ Err e

-- ---- strings

string_short : (n : ℕ) (bytes : List ℕ) → length bytes < n → string_at n bytes ≡ Err Truncated
unfolding string_at
string_short n bytes lt = rw (lt-ltb _ _ lt) refl

text_short : (n : ℕ) (bytes : List ℕ) → length bytes < n → text_at n bytes ≡ Err Truncated
unfolding text_at
text_short n bytes lt = rw (string_short n bytes lt) refl

text_other : (content rest : List ℕ) → ¬ IsUtf8 content → text_at (length content) (content ++ rest) ≡ Err Unsupported
unfolding text_at
text_other content rest other =
    let test : is_utf8 content ≡ false = false_from_ne_true _ (λ e. other (IsUtf8-from_is_utf8 content e)) in
    rw (string_again content rest, test) refl

bytes_content : (inner : List ℕ → Found) (n : ℕ) (bytes : List ℕ) (e : ReadError) → string_at n bytes ≡ Err e → content_at inner Bytes n bytes ≡ Err e
unfolding content_at
bytes_content inner n bytes e h = rw h refl

text_content : (inner : List ℕ → Found) (n : ℕ) (bytes : List ℕ) (e : ReadError) → text_at n bytes ≡ Err e → content_at inner Text n bytes ≡ Err e
unfolding content_at
text_content inner n bytes e h = rw h refl

array_content : (inner : List ℕ → Found) (n : ℕ) (bytes : List ℕ) (e : ReadError) → items_from inner no_items n bytes ≡ Err e → content_at inner Array n bytes ≡ Err e
unfolding content_at
array_content inner n bytes e h = rw h refl

map_content : (inner : List ℕ → Found) (n : ℕ) (bytes : List ℕ) (e : ReadError) → pairs_from inner no_pairs n bytes ≡ Err e → content_at inner Map n bytes ≡ Err e
unfolding content_at
map_content inner n bytes e h = rw h refl

tag_content : (inner : List ℕ → Found) (n : ℕ) (bytes : List ℕ) (e : ReadError) → inner bytes ≡ Err e → content_at inner Tag n bytes ≡ Err e
unfolding content_at
tag_content inner n bytes e h = rw h refl

-- ---- items

items_fail : (inner : List ℕ → Found) (left : ℕ) → ReadsAgain inner left → (ds before : Items) (n : ℕ) (front rest : List ℕ) (e : ReadError) → SpellsItems front ds → items_nesting ds ≤ left → item_count ds < n → inner rest ≡ Err e
    → items_from inner before n (front ++ rest) ≡ Err e
unfolding items_from
items_fail inner left again ds before zero front rest e spelled shallow fewer h = absurd (omega (arith, fewer))
items_fail inner left again no_items before (suc n) front rest e spelled shallow fewer h = rw (spelled, h) refl
items_fail inner left again (item d ds) before (suc n) front rest e (one, others, is_one, are_others, whole) shallow fewer h =
    let parts : front ++ rest ≡ one ++ (others ++ rest) = ap (λ (x : List ℕ). x ++ rest) whole ∙ append_assoc one others rest in
    let first : inner (one ++ (others ++ rest)) ≡ Ok (d, others ++ rest) = again d one (others ++ rest) is_one (omega (arith, shallow)) in
    rw (parts, first) (items_fail inner left again ds (push_item before d) n others rest e are_others (omega (arith, shallow)) (omega (arith, fewer)) h)

-- ---- pairs

pair_fails : (inner : List ℕ → Found) (left : ℕ) (Inner : List ℕ → ReadError → Type 0) → ReadsAgain inner left → Faulty inner Inner → (before : Pairs) (n : ℕ) (bytes : List ℕ) (e : ReadError) → PairFails left Inner before bytes e
    → pairs_from inner before (suc n) bytes ≡ Err e
unfolding pairs_from
pair_fails inner left Inner again faulty before n bytes e (key_fails h) = rw (faulty bytes e h) refl
pair_fails inner left Inner again faulty before n bytes e (key_again k front rest is_key shallow whole old is) =
    rw (whole, again k front rest is_key shallow, key_found k before old, is) refl
pair_fails inner left Inner again faulty before n bytes e (value_fails k front rest is_key shallow whole new h) =
    rw (whole, again k front rest is_key shallow, key_missing k before new, faulty rest e h) refl

pairs_fail : (inner : List ℕ → Found) (left : ℕ) (Inner : List ℕ → ReadError → Type 0) → ReadsAgain inner left → Faulty inner Inner → (ps before : Pairs) (n : ℕ) (front rest : List ℕ) (e : ReadError) → SpellsPairs front ps
    → HasOwnKeys (join_pairs before ps) → pairs_nesting ps ≤ left → pair_count ps < n → PairFails left Inner (join_pairs before ps) rest e → pairs_from inner before n (front ++ rest) ≡ Err e
unfolding pairs_from
pairs_fail inner left Inner again faulty ps before zero front rest e spelled own shallow fewer h = absurd (omega (arith, fewer))
pairs_fail inner left Inner again faulty no_pairs before (suc n) front rest e spelled own shallow fewer h =
    let here : PairFails left Inner before rest e = subst (λ (x : Pairs). PairFails left Inner x rest e) (join_pairs-none before) h in
    ap (λ (x : List ℕ). pairs_from inner before (suc n) (x ++ rest)) spelled ∙ pair_fails inner left Inner again faulty before n rest e here
pairs_fail inner left Inner again faulty (pair k v ps) before (suc n) front rest e (key, value, others, is_key, is_value, are_others, whole) own shallow fewer h =
    let parts : front ++ rest ≡ key ++ (value ++ (others ++ rest)) = ap (λ (x : List ℕ). x ++ rest) whole ∙ simp append_assoc in
    let first : inner (key ++ (value ++ (others ++ rest))) ≡ Ok (k, value ++ (others ++ rest)) = again k key (value ++ (others ++ rest)) is_key (omega (arith, shallow)) in
    let new : has_key k before ≡ false = key_missing k before (own_middle before k v ps own) in
    let second : inner (value ++ (others ++ rest)) ≡ Ok (v, others ++ rest) = again v value (others ++ rest) is_value (omega (arith, shallow)) in
    let joined = sym (join_pairs-push before k v ps) in
    rw (parts, first, new, second) (pairs_fail inner left Inner again faulty ps (push_pair before k v) n others rest e are_others (subst HasOwnKeys joined own) (omega (arith, shallow)) (omega (arith, fewer)) (subst (λ (x : Pairs). PairFails left Inner x rest e) joined h))

-- ---- heads

-- a simple value that isn't in the subset
simple_other : (bits : ℕ) (bytes : List ℕ) → bits ≢ 20 → bits ≢ 21 → bits ≢ 22 → simple_at bits bytes ≡ Err Unsupported
unfolding simple_at
simple_other bits bytes not_false not_true not_null = rw (ne_eqb bits 20 not_false, ne_eqb bits 21 not_true, ne_eqb bits 22 not_null) refl

simple_fails : (left major bits : ℕ) (bytes : List ℕ) → bits < 32 → 7 ≤ major → bits ≢ 20 → bits ≢ 21 → bits ≢ 22 → item_at (suc left) ((32 * major + bits) ∷ bytes) ≡ Err Unsupported
simple_fails left major bits bytes lt high not_false not_true not_null =
    let first = 32 * major + bits in
    item_simple (suc left) first bytes (omega arith) (major_none (first / 32) (omega (arith, major_part major bits lt)))
    ∙ ap (λ (b : ℕ). simple_at b bytes) (bits_part major bits lt) ∙ simple_other bits bytes not_false not_true not_null

argument_fails : (left major bits : ℕ) (bytes : List ℕ) (e : ReadError) → bits < 32 → major < 7 → argument_at bits bytes ≡ Err e → item_at (suc left) ((32 * major + bits) ∷ bytes) ≡ Err e
argument_fails left major bits bytes e lt low h =
    let first = 32 * major + bits in
    let (m, some) = major_at (first / 32) (omega (arith, major_part major bits lt)) in
    item_behind left first bytes m some ∙ ap (λ (b : ℕ). argument_at b bytes >>= λ n. content_at (item_at left) m n.0 n.1) (bits_part major bits lt) ∙ ap (λ r. r >>= λ n. content_at (item_at left) m n.0 n.1) h

first_fails : (left major bits : ℕ) (bytes : List ℕ) → bits < 32 → IsUnsupported major bits → item_at (suc left) ((32 * major + bits) ∷ bytes) ≡ Err Unsupported
first_fails left major bits bytes lt (no_simple_value is not_false not_true not_null) = simple_fails left major bits bytes lt (omega arith) not_false not_true not_null
first_fails left major bits bytes lt (reserved le) =
    elim (cases_lt major 7) [
      | inl low ↦ argument_fails left major bits bytes Unsupported lt low (argument_reserved bits bytes le)
      | inr high ↦ simple_fails left major bits bytes lt high (omega arith) (omega arith) (omega arith)
    ]

short_bits : (bits size : ℕ) → IsExtended bits size → bits < 32
short_bits bits size (faults.IsExtended.by_one is s) = omega arith
short_bits bits size (faults.IsExtended.by_two is s) = omega arith
short_bits bits size (faults.IsExtended.by_four is s) = omega arith
short_bits bits size (faults.IsExtended.by_eight is s) = omega arith

head_fails : (left : ℕ) (bytes : List ℕ) (e : ReadError) → HeadFails bytes e → item_at (suc left) bytes ≡ Err e
head_fails left bytes e (faults.HeadFails.no_byte none is) = ap (item_at (suc left)) none ∙ item_none (suc left) ∙ ap (λ x. Err x) (sym is)
head_fails left bytes e (unsupported major bits rest whole lt bad is) = ap (item_at (suc left)) whole ∙ first_fails left major bits rest lt bad ∙ ap (λ x. Err x) (sym is)
head_fails left bytes e (cut_short major bits size rest whole low extended short is) =
    ap (item_at (suc left)) whole ∙ argument_fails left major bits rest Truncated (short_bits bits size extended) low (argument_short bits size rest extended short) ∙ ap (λ x. Err x) (sym is)

-- ---- items

-- what follows a head is refused
behind_fails : (left : ℕ) (m : Major) (n : ℕ) (Rest : List ℕ → Type 0) (bytes : List ℕ) (e : ReadError) → (f : Follows (major_number m) n Rest bytes) → content_at (item_at left) m n f.rest ≡ Err e → item_at (suc left) bytes ≡ Err e
behind_fails left m n Rest bytes e f h =
    ap (item_at (suc left)) f.whole ∙ head_again left m n f.front f.rest f.is_head ∙ h

string_fails : (left : ℕ) (bytes : List ℕ) (e : ReadError) → StringFails bytes e → item_at (suc left) bytes ≡ Err e
string_fails left bytes e (bytes_end n f is) = behind_fails left Bytes n (λ x. length x < n) bytes e f (bytes_content (item_at left) n f.rest e (string_short n f.rest f.is_rest ∙ ap (λ x. Err x) (sym is)))
string_fails left bytes e (text_ends n f is) = behind_fails left Text n (λ x. length x < n) bytes e f (text_content (item_at left) n f.rest e (text_short n f.rest f.is_rest ∙ ap (λ x. Err x) (sym is)))
string_fails left bytes e (not_utf8 content rest f other is) =
    behind_fails left Text (length content) (λ x. x ≡ content ++ rest) bytes e f (text_content (item_at left) (length content) f.rest e (ap (text_at (length content)) f.is_rest ∙ text_other content rest other ∙ ap (λ x. Err x) (sym is)))

item_fails_with : (left : ℕ) (Inner : List ℕ → ReadError → Type 0) → Faulty (item_at left) Inner → (bytes : List ℕ) (e : ReadError) → ItemFails left Inner bytes e → item_at (suc left) bytes ≡ Err e
item_fails_with left Inner faulty bytes e (in_head h) = head_fails left bytes e h
item_fails_with left Inner faulty bytes e (in_string h) = string_fails left bytes e h
item_fails_with left Inner faulty bytes e (in_array n f) =
    let i = f.is_rest in
    behind_fails left Array n (λ x. ItemsFail left Inner n x e) bytes e f (array_content (item_at left) n f.rest e
    (ap (items_from (item_at left) no_items n) i.whole ∙ items_fail (item_at left) left (item_again left) i.before no_items n i.front i.rest e i.spelled i.shallow i.fewer (faulty i.rest e i.fails)))
item_fails_with left Inner faulty bytes e (in_map n f) =
    let p = f.is_rest in
    behind_fails left Map n (λ x. PairsFail left Inner n x e) bytes e f (map_content (item_at left) n f.rest e
    (ap (pairs_from (item_at left) no_pairs n) p.whole ∙ pairs_fail (item_at left) left Inner (item_again left) faulty p.before no_pairs n p.front p.rest e p.spelled p.own_keys p.shallow p.fewer p.fails))
item_fails_with left Inner faulty bytes e (in_tag n f) =
    behind_fails left Tag n (λ x. Inner x e) bytes e f (tag_content (item_at left) n f.rest e (faulty f.rest e f.is_rest))

deep_fails : (bytes : List ℕ) (e : ReadError) → TooDeepFails bytes e → item_at zero bytes ≡ Err e
deep_fails bytes e (faults.TooDeepFails.no_byte none is) = ap (item_at zero) none ∙ item_none zero ∙ ap (λ x. Err x) (sym is)
deep_fails [] e (too_deep some is) = absurd (some refl)
deep_fails (first ∷ bytes) e (too_deep some is) = item_deep first bytes ∙ ap (λ x. Err x) (sym is)

pub item_fails : (left : ℕ) → Faulty (item_at left) (Fails left)
unfolding Fails
item_fails zero bytes e h = deep_fails bytes e h
item_fails (suc left) bytes e h = item_fails_with left (Fails left) (item_fails left) bytes e h
