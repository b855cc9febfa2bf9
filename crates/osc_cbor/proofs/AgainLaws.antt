-- What is spelled so is read, whatever follows.
use Rattle.std.proofs.Common.{◌≡◌, ℕ, zero, suc, ◌+◌, ◌*◌, ◌/◌, ◌%◌, ◌<◌, ◌≤◌, true, false, ltb, List, [], ◌∷◌, ◌++◌, length, Ok, refl, sym, ap, subst, ◌∙◌, append_assoc, arith}
use Rattle.std.specs.Str.{IsUtf8}
use Rattle.std.proofs.lemmas.Bool.{le-ltb}
use Rattle.std.proofs.lemmas.List.{take_at, drop_at, length-append}
use Rattle.std.proofs.lemmas.Str.{is_utf8-from_IsUtf8}
use Rattle.osc_cbor.specs.{DataItem, unsigned, negative, byte_string, text_string, array, map, tag, bool, null, Items, no_items, item, Pairs, no_pairs, pair, item_count, pair_count, HasOwnKeys, nesting, items_nesting, pairs_nesting, IsHead, major_number, Spells, SpellsItems, SpellsPairs, Follows, has_key, ◌>>=◌, Found, argument_at, major_of, simple_at, string_at, text_at, items_from, pairs_from, push_item, push_pair, content_at, item_at}
use Rattle.osc_cbor.specs.declared.heads.Major.{Major}
use Rattle.osc_cbor.specs.declared.heads.Major.TheVariants.{Unsigned, Negative, Bytes, Text, Array, Map, Tag}
use Rattle.osc_cbor.proofs.HeadLaws.{argument_again, major_again, major_none, major_part, bits_part}
use Rattle.osc_cbor.proofs.KeyLaws.{join_items, join_items-push, join_items-none, join_pairs, join_pairs-push, join_pairs-none, own_middle, key_missing}
use Rattle.osc_cbor.proofs.ReadSteps.{item_simple, item_behind}

-- `inner` reads what is spelled with `left` levels
abbrev pub ReadsAgain : (List ℕ → Found) → ℕ → Type 0
ReadsAgain inner left = (d : DataItem) (front rest : List ℕ) → Spells front d → nesting d < left → inner (front ++ rest) ≡ Ok (d, rest)

-- ---- strings

pub string_again : (content rest : List ℕ) → string_at (length content) (content ++ rest) ≡ Ok (content, rest)
unfolding string_at
string_again content rest =
    let long : ltb (length (content ++ rest)) (length content) ≡ false = le-ltb _ _ (omega (arith, length-append content rest)) in
    rw (long, take_at content rest (length content) refl, drop_at content rest (length content) refl) refl

pub text_again : (content rest : List ℕ) → IsUtf8 content → text_at (length content) (content ++ rest) ≡ Ok (content, rest)
unfolding text_at
text_again content rest text = rw (string_again content rest, is_utf8-from_IsUtf8 content text) refl

-- ---- items

pub items_again : (inner : List ℕ → Found) (left : ℕ) → ReadsAgain inner left → (ds before : Items) (front rest : List ℕ) → SpellsItems front ds → items_nesting ds ≤ left
    → items_from inner before (item_count ds) (front ++ rest) ≡ Ok (join_items before ds, rest)
unfolding items_from
items_again inner left again no_items before front rest spelled shallow =
    rw (spelled, join_items-none before) refl
items_again inner left again (item d ds) before front rest (one, others, is_one, are_others, whole) shallow =
    let parts : front ++ rest ≡ one ++ (others ++ rest) = ap (λ (x : List ℕ). x ++ rest) whole ∙ append_assoc one others rest in
    let first : inner (one ++ (others ++ rest)) ≡ Ok (d, others ++ rest) = again d one (others ++ rest) is_one (omega (arith, shallow)) in
    let more = items_again inner left again ds (push_item before d) others rest are_others (omega (arith, shallow)) in
    rw (parts, first) (more ∙ ap (λ (x : Items). Ok (x, rest)) (join_items-push before d ds))

pub pairs_again : (inner : List ℕ → Found) (left : ℕ) → ReadsAgain inner left → (ps before : Pairs) (front rest : List ℕ) → SpellsPairs front ps → HasOwnKeys (join_pairs before ps) → pairs_nesting ps ≤ left
    → pairs_from inner before (pair_count ps) (front ++ rest) ≡ Ok (join_pairs before ps, rest)
unfolding pairs_from
pairs_again inner left again no_pairs before front rest spelled own shallow =
    rw (spelled, join_pairs-none before) refl
pairs_again inner left again (pair k v ps) before front rest (key, value, others, is_key, is_value, are_others, whole) own shallow =
    let parts : front ++ rest ≡ key ++ (value ++ (others ++ rest)) = ap (λ (x : List ℕ). x ++ rest) whole ∙ simp append_assoc in
    let first : inner (key ++ (value ++ (others ++ rest))) ≡ Ok (k, value ++ (others ++ rest)) = again k key (value ++ (others ++ rest)) is_key (omega (arith, shallow)) in
    let new : has_key k before ≡ false = key_missing k before (own_middle before k v ps own) in
    let second : inner (value ++ (others ++ rest)) ≡ Ok (v, others ++ rest) = again v value (others ++ rest) is_value (omega (arith, shallow)) in
    let more = pairs_again inner left again ps (push_pair before k v) others rest are_others (subst HasOwnKeys (sym (join_pairs-push before k v ps)) own) (omega (arith, shallow)) in
    rw (parts, first, new, second) (more ∙ ap (λ (x : Pairs). Ok (x, rest)) (join_pairs-push before k v ps))

-- ---- heads and contents

-- after a head is the content
pub head_again : (left : ℕ) (m : Major) (n : ℕ) (front after : List ℕ) → IsHead (major_number m) n front → item_at (suc left) (front ++ after) ≡ content_at (item_at left) m n after
head_again left m n front after is =
    let head = argument_again (major_number m) n front after is in
    let first = 32 * major_number m + head.bits in
    let high : first / 32 ≡ major_number m = major_part (major_number m) head.bits (omega (arith, head.below)) in
    let low : first % 32 ≡ head.bits = bits_part (major_number m) head.bits (omega (arith, head.below)) in
    ap (λ (x : List ℕ). item_at (suc left) (x ++ after)) head.first ∙ item_behind left first (head.extension ++ after) m (ap major_of high ∙ major_again m)
    ∙ ap (λ (b : ℕ). argument_at b (head.extension ++ after) >>= λ x. content_at (item_at left) m x.0 x.1) low ∙ ap (λ r. r >>= λ x. content_at (item_at left) m x.0 x.1) head.read

-- a head and what follows it
pub followed_again : (left : ℕ) (m : Major) (n : ℕ) (Rest : List ℕ → Type 0) (bytes rest : List ℕ) (r : Found) → (f : Follows (major_number m) n Rest bytes) → content_at (item_at left) m n (f.rest ++ rest) ≡ r
    → item_at (suc left) (bytes ++ rest) ≡ r
followed_again left m n Rest bytes rest r f h =
    ap (λ (x : List ℕ). item_at (suc left) (x ++ rest)) f.whole ∙ ap (item_at (suc left)) (append_assoc f.front f.rest rest) ∙ head_again left m n f.front (f.rest ++ rest) f.is_head ∙ h

simple_again : (left bits : ℕ) (d : DataItem) (front rest : List ℕ) → bits < 32 → front ≡ (224 + bits) ∷ [] → simple_at bits rest ≡ Ok (d, rest) → item_at (suc left) (front ++ rest) ≡ Ok (d, rest)
simple_again left bits d front rest lt spelled h =
    let first = 224 + bits in
    let high : 7 ≤ first / 32 = omega (arith, major_part 7 bits lt) in
    let low : first % 32 ≡ bits = bits_part 7 bits lt in
    ap (λ (x : List ℕ). item_at (suc left) (x ++ rest)) spelled ∙ item_simple (suc left) first rest (omega arith) (major_none (first / 32) high) ∙ ap (λ (b : ℕ). simple_at b rest) low ∙ h

false_again : (rest : List ℕ) → simple_at 20 rest ≡ Ok (bool false, rest)
unfolding simple_at
false_again rest = refl

true_again : (rest : List ℕ) → simple_at 21 rest ≡ Ok (bool true, rest)
unfolding simple_at
true_again rest = refl

null_again : (rest : List ℕ) → simple_at 22 rest ≡ Ok (null, rest)
unfolding simple_at
null_again rest = refl

-- ---- items

unsigned_again : (inner : List ℕ → Found) (n : ℕ) (rest : List ℕ) → content_at inner Unsigned n rest ≡ Ok (unsigned n, rest)
unfolding content_at
unsigned_again inner n rest = refl

negative_again : (inner : List ℕ → Found) (n : ℕ) (rest : List ℕ) → content_at inner Negative n rest ≡ Ok (negative n, rest)
unfolding content_at
negative_again inner n rest = refl

bytes_again : (inner : List ℕ → Found) (content after rest : List ℕ) → after ≡ content → content_at inner Bytes (length content) (after ++ rest) ≡ Ok (byte_string content, rest)
unfolding content_at
bytes_again inner content after rest is = rw (is, string_again content rest) refl

texts_again : (inner : List ℕ → Found) (content after rest : List ℕ) → IsUtf8 content → after ≡ content → content_at inner Text (length content) (after ++ rest) ≡ Ok (text_string content, rest)
unfolding content_at
texts_again inner content after rest text is = rw (is, text_again content rest text) refl

array_again : (inner : List ℕ → Found) (left : ℕ) → ReadsAgain inner left → (ds : Items) (after rest : List ℕ) → SpellsItems after ds → items_nesting ds ≤ left → content_at inner Array (item_count ds) (after ++ rest) ≡ Ok (array ds, rest)
unfolding content_at
array_again inner left again ds after rest spelled shallow = rw (items_again inner left again ds no_items after rest spelled shallow) refl

map_again : (inner : List ℕ → Found) (left : ℕ) → ReadsAgain inner left → (ps : Pairs) (after rest : List ℕ) → SpellsPairs after ps → HasOwnKeys ps → pairs_nesting ps ≤ left → content_at inner Map (pair_count ps) (after ++ rest) ≡ Ok (map ps, rest)
unfolding content_at
map_again inner left again ps after rest spelled own shallow = rw (pairs_again inner left again ps no_pairs after rest spelled own shallow) refl

tag_again : (inner : List ℕ → Found) (left : ℕ) → ReadsAgain inner left → (n : ℕ) (d : DataItem) (after rest : List ℕ) → Spells after d → nesting d < left → content_at inner Tag n (after ++ rest) ≡ Ok (tag n d, rest)
unfolding content_at
tag_again inner left again n d after rest spelled shallow = rw (again d after rest spelled shallow) refl

pub item_again : (left : ℕ) → ReadsAgain (item_at left) left
item_again zero d front rest spelled shallow = absurd (omega (arith, shallow))
item_again (suc left) (unsigned n) front rest spelled shallow = head_again left Unsigned n front rest spelled ∙ unsigned_again (item_at left) n rest
item_again (suc left) (negative n) front rest spelled shallow = head_again left Negative n front rest spelled ∙ negative_again (item_at left) n rest
item_again (suc left) (byte_string content) front rest spelled shallow = followed_again left Bytes (length content) (λ x. x ≡ content) front rest _ spelled (bytes_again (item_at left) content spelled.rest rest spelled.is_rest)
item_again (suc left) (text_string content) front rest spelled shallow = followed_again left Text (length content) (λ x. x ≡ content) front rest _ spelled.1 (texts_again (item_at left) content spelled.1.rest rest spelled.0 spelled.1.is_rest)
item_again (suc left) (array ds) front rest spelled shallow = followed_again left Array (item_count ds) (λ x. SpellsItems x ds) front rest _ spelled (array_again (item_at left) left (item_again left) ds spelled.rest rest spelled.is_rest (omega (arith, shallow)))
item_again (suc left) (map ps) front rest spelled shallow = followed_again left Map (pair_count ps) (λ x. SpellsPairs x ps) front rest _ spelled.1 (map_again (item_at left) left (item_again left) ps spelled.1.rest rest spelled.1.is_rest spelled.0 (omega (arith, shallow)))
item_again (suc left) (tag n d) front rest spelled shallow = followed_again left Tag n (λ x. Spells x d) front rest _ spelled (tag_again (item_at left) left (item_again left) n d spelled.rest rest spelled.is_rest (omega (arith, shallow)))
item_again (suc left) (bool true) front rest spelled shallow = simple_again left 21 (bool true) front rest (omega arith) spelled (true_again rest)
item_again (suc left) (bool false) front rest spelled shallow = simple_again left 20 (bool false) front rest (omega arith) spelled (false_again rest)
item_again (suc left) null front rest spelled shallow = simple_again left 22 null front rest (omega arith) spelled (null_again rest)
