-- One step of the reader, as the code makes it.
use Rattle.std.proofs.Common.{◌≡◌, ℕ, zero, suc, ◌+◌, ◌-◌, ◌<◌, ◌≤◌, ◌/◌, ◌%◌, true, false, List, [], ◌∷◌, Some, None, Result, Ok, Err, refl, arith}
use Rattle.osc_cbor.specs.{DataItem, Items, Pairs, has_key, ◌>>=◌, Refuses, Found, argument_at, major_of, push_item, push_pair, items_from, pairs_from, simple_at, content_at, item_at, any_pairs_from, any_content_at, any_item_at}
use Rattle.osc_cbor.specs.declared.heads.Major.{Major}
use Rattle.osc_cbor.specs.declared.error.ReadError.{ReadError}
use Rattle.osc_cbor.specs.declared.error.ReadError.TheVariants.{Truncated, Unsupported, DuplicateKey, TooDeep, Memory}

-- what a step refuses, all refuse
pub Refuses-then : {A B : Type 0} (e : ReadError) (r : Result A ReadError) (f : A → Result B ReadError) → Refuses e r → Refuses e (r >>= f)
Refuses-then Memory r f h = tt
Refuses-then Truncated r f h = rw h refl
Refuses-then Unsupported r f h = rw h refl
Refuses-then DuplicateKey r f h = rw h refl
Refuses-then TooDeep r f h = rw h refl

-- ---- items

pub items_more : (inner : List ℕ → Found) (before : Items) (count i : ℕ) (bytes : List ℕ) (d : DataItem) (after : List ℕ) → i < count → inner bytes ≡ Ok (d, after)
    → items_from inner before (count - i) bytes ≡ items_from inner (push_item before d) (count - (i + 1)) after
unfolding items_from
items_more inner before count i bytes d after lt h =
    let k : count - i ≡ suc (count - (i + 1)) = omega arith in
    rw (k, h) refl

pub items_refused : (e : ReadError) (inner : List ℕ → Found) (before : Items) (count i : ℕ) (bytes : List ℕ) → i < count → Refuses e (inner bytes)
    → Refuses e (items_from inner before (count - i) bytes)
unfolding items_from
items_refused e inner before count i bytes lt h =
    let k : count - i ≡ suc (count - (i + 1)) = omega arith in
    rw k (Refuses-then e (inner bytes) (λ d. items_from inner (push_item before d.0) (count - (i + 1)) d.1) h)

pub items_done : (inner : List ℕ → Found) (before : Items) (count i : ℕ) (bytes : List ℕ) → count ≤ i → items_from inner before (count - i) bytes ≡ Ok (before, bytes)
unfolding items_from
items_done inner before count i bytes le =
    let k : count - i ≡ 0 = omega arith in
    rw k refl

-- ---- pairs

pub pairs_more : (inner : List ℕ → Found) (before : Pairs) (count i : ℕ) (bytes : List ℕ) (k v : DataItem) (behind_key after : List ℕ) → i < count
    → inner bytes ≡ Ok (k, behind_key) → has_key k before ≡ false → inner behind_key ≡ Ok (v, after)
    → pairs_from inner before (count - i) bytes ≡ pairs_from inner (push_pair before k v) (count - (i + 1)) after
unfolding pairs_from
pairs_more inner before count i bytes k v behind_key after lt h new g =
    let n : count - i ≡ suc (count - (i + 1)) = omega arith in
    rw (n, h, new, g) refl

pub pairs_again : (inner : List ℕ → Found) (before : Pairs) (count i : ℕ) (bytes : List ℕ) (k : DataItem) (behind_key : List ℕ) → i < count
    → inner bytes ≡ Ok (k, behind_key) → has_key k before ≡ true → pairs_from inner before (count - i) bytes ≡ Err DuplicateKey
unfolding pairs_from
pairs_again inner before count i bytes k behind_key lt h old =
    let n : count - i ≡ suc (count - (i + 1)) = omega arith in
    rw (n, h, old) refl

pub pairs_done : (inner : List ℕ → Found) (before : Pairs) (count i : ℕ) (bytes : List ℕ) → count ≤ i → pairs_from inner before (count - i) bytes ≡ Ok (before, bytes)
unfolding pairs_from
pairs_done inner before count i bytes le =
    let n : count - i ≡ 0 = omega arith in
    rw n refl

-- ---- pairs whatever their keys

pub any_pairs_more : (inner : List ℕ → Found) (before : Pairs) (count i : ℕ) (bytes : List ℕ) (k v : DataItem) (behind_key after : List ℕ) → i < count
    → inner bytes ≡ Ok (k, behind_key) → inner behind_key ≡ Ok (v, after)
    → any_pairs_from inner before (count - i) bytes ≡ any_pairs_from inner (push_pair before k v) (count - (i + 1)) after
unfolding any_pairs_from
any_pairs_more inner before count i bytes k v behind_key after lt h g =
    let n : count - i ≡ suc (count - (i + 1)) = omega arith in
    rw (n, h, g) refl

pub any_key_refused : (e : ReadError) (inner : List ℕ → Found) (before : Pairs) (count i : ℕ) (bytes : List ℕ) → i < count → Refuses e (inner bytes)
    → Refuses e (any_pairs_from inner before (count - i) bytes)
unfolding any_pairs_from
any_key_refused e inner before count i bytes lt h =
    let n : count - i ≡ suc (count - (i + 1)) = omega arith in
    rw n (Refuses-then e (inner bytes) (λ k. inner k.1 >>= λ v. any_pairs_from inner (push_pair before k.0 v.0) (count - (i + 1)) v.1) h)

pub any_value_refused : (e : ReadError) (inner : List ℕ → Found) (before : Pairs) (count i : ℕ) (bytes : List ℕ) (k : DataItem) (behind_key : List ℕ) → i < count
    → inner bytes ≡ Ok (k, behind_key) → Refuses e (inner behind_key) → Refuses e (any_pairs_from inner before (count - i) bytes)
unfolding any_pairs_from
any_value_refused e inner before count i bytes k behind_key lt h g =
    let n : count - i ≡ suc (count - (i + 1)) = omega arith in
    rw (n, h) (Refuses-then e (inner behind_key) (λ v. any_pairs_from inner (push_pair before k v.0) (count - (i + 1)) v.1) g)

pub any_pairs_done : (inner : List ℕ → Found) (before : Pairs) (count i : ℕ) (bytes : List ℕ) → count ≤ i → any_pairs_from inner before (count - i) bytes ≡ Ok (before, bytes)
unfolding any_pairs_from
any_pairs_done inner before count i bytes le =
    let n : count - i ≡ 0 = omega arith in
    rw n refl

-- ---- the first byte

pub item_none : (left : ℕ) → item_at left [] ≡ Err Truncated
unfolding item_at
item_none zero = refl
item_none (suc left) = refl

pub item_deep : (first : ℕ) (bytes : List ℕ) → item_at zero (first ∷ bytes) ≡ Err TooDeep
unfolding item_at
item_deep first bytes = refl

pub item_simple : (left first : ℕ) (bytes : List ℕ) → 0 < left → major_of (first / 32) ≡ None → item_at left (first ∷ bytes) ≡ simple_at (first % 32) bytes
unfolding item_at
item_simple zero first bytes lt none = absurd (omega arith)
item_simple (suc left) first bytes lt none = rw none refl

pub item_behind : (left first : ℕ) (bytes : List ℕ) (m : Major) → major_of (first / 32) ≡ Some m
    → item_at (suc left) (first ∷ bytes) ≡ (argument_at (first % 32) bytes >>= λ n. content_at (item_at left) m n.0 n.1)
unfolding item_at
item_behind left first bytes m is = rw is refl

pub item_headed : (left first : ℕ) (bytes : List ℕ) (m : Major) → 0 < left → major_of (first / 32) ≡ Some m
    → item_at left (first ∷ bytes) ≡ (argument_at (first % 32) bytes >>= λ n. content_at (item_at (left - 1)) m n.0 n.1)
item_headed zero first bytes m lt is = absurd (omega arith)
item_headed (suc left) first bytes m lt is =
    let k : suc left - 1 ≡ left = omega arith in
    rw k (item_behind left first bytes m is)

-- ---- the first byte, whatever the keys

any_item_behind : (left first : ℕ) (bytes : List ℕ) (m : Major) → major_of (first / 32) ≡ Some m
    → any_item_at (suc left) (first ∷ bytes) ≡ (argument_at (first % 32) bytes >>= λ n. any_content_at (any_item_at left) m n.0 n.1)
unfolding any_item_at
any_item_behind left first bytes m is = rw is refl

pub any_item_headed : (left first : ℕ) (bytes : List ℕ) (m : Major) → 0 < left → major_of (first / 32) ≡ Some m
    → any_item_at left (first ∷ bytes) ≡ (argument_at (first % 32) bytes >>= λ n. any_content_at (any_item_at (left - 1)) m n.0 n.1)
any_item_headed zero first bytes m lt is = absurd (omega arith)
any_item_headed (suc left) first bytes m lt is =
    let k : suc left - 1 ≡ left = omega arith in
    rw k (any_item_behind left first bytes m is)
