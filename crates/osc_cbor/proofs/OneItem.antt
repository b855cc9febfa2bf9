-- No bytes are two items, and what is written is spelled.
use Rattle.std.proofs.Common.{◌≡◌, ℕ, suc, ◌^◌, ◌<◌, max, List, ◌++◌, length, Ok, refl, sym, ap, ◌∙◌, arith, inl, inr}
use Rattle.std.proofs.lemmas.Bool.{cases_lt, lt-ltb, le-ltb}
use Rattle.std.proofs.lemmas.List.{append_cancel_right}
use Rattle.osc_cbor.specs.{DataItem, unsigned, negative, byte_string, text_string, array, map, tag, bool, null, Items, no_items, item, Pairs, no_pairs, pair, item_count, pair_count, nesting, IsHead, inline, in_one_byte, in_two_bytes, in_four_bytes, in_eight_bytes, head, Spells, SpellsItems, SpellsPairs, spelling, items_spelling, pairs_spelling, HasSpelling, HaveSpellings, PairsHaveSpellings, item_at}
use Rattle.osc_cbor.proofs.Steps.{ok_is}
use Rattle.osc_cbor.proofs.AgainLaws.{item_again}

-- ---- both are read from the same bytes

pub one_item : (a b x y : List ℕ) (d e : DataItem) → Spells a d → Spells b e → a ++ x ≡ b ++ y → (a ≡ b) × (d ≡ e)
one_item a b x y d e is_a is_b whole =
    let left = suc (max (nesting d) (nesting e)) in
    let first : item_at left (a ++ x) ≡ Ok (d, x) = item_again left d a x is_a (omega arith) in
    let second : item_at left (b ++ y) ≡ Ok (e, y) = item_again left e b y is_b (omega arith) in
    let same : (d, x) ≡ (e, y) = ok_is (d, x) (e, y) (sym first ∙ ap (item_at left) whole ∙ second) in
    let rest : x ≡ y = ap (λ (p : DataItem × List ℕ). p.1) same in
    (append_cancel_right a b x (whole ∙ ap (λ (z : List ℕ). b ++ z) (sym rest)), ap (λ (p : DataItem × List ℕ). p.0) same)

-- ---- the shortest heads are heads

pub head_is : (major n : ℕ) → n < 2 ^ 64 → IsHead major n (head major n)
unfolding head
head_is major n lt =
    elim (cases_lt n 24) [
      | inl a ↦ inline a (rw (lt-ltb n 24 a) refl)
      | inr a ↦ elim (cases_lt n (2 ^ 8)) [
        | inl b ↦ in_one_byte b (rw (le-ltb n 24 a, lt-ltb n (2 ^ 8) b) refl)
        | inr b ↦ elim (cases_lt n (2 ^ 16)) [
          | inl c ↦ in_two_bytes c (rw (le-ltb n 24 a, le-ltb n (2 ^ 8) b, lt-ltb n (2 ^ 16) c) refl)
          | inr c ↦ elim (cases_lt n (2 ^ 32)) [
            | inl d ↦ in_four_bytes d (rw (le-ltb n 24 a, le-ltb n (2 ^ 8) b, le-ltb n (2 ^ 16) c, lt-ltb n (2 ^ 32) d) refl)
            | inr d ↦ in_eight_bytes lt (rw (le-ltb n 24 a, le-ltb n (2 ^ 8) b, le-ltb n (2 ^ 16) c, le-ltb n (2 ^ 32) d) refl)
          ]
        ]
      ]
    ]

pub head_fits : (major n : ℕ) (bytes : List ℕ) → IsHead major n bytes → n < 2 ^ 64
head_fits major n bytes (inline lt e) = omega arith
head_fits major n bytes (in_one_byte lt e) = omega arith
head_fits major n bytes (in_two_bytes lt e) = omega arith
head_fits major n bytes (in_four_bytes lt e) = omega arith
head_fits major n bytes (in_eight_bytes lt e) = lt

-- ---- what is written is spelled

mutual
  pub spells : (d : DataItem) → HasSpelling d → Spells (spelling d) d
  spells (unsigned n) h = head_is 0 n h
  spells (negative n) h = head_is 1 n h
  spells (byte_string content) h = record { front = head 2 (length content); rest = content; is_head = head_is 2 (length content) h; is_rest = refl; whole = refl }
  spells (text_string content) h = (h.0, record { front = head 3 (length content); rest = content; is_head = head_is 3 (length content) h.1; is_rest = refl; whole = refl })
  spells (array ds) h = record { front = head 4 (item_count ds); rest = items_spelling ds; is_head = head_is 4 (item_count ds) h.0; is_rest = items_spell ds h.1; whole = refl }
  spells (map ps) h = (h.0, record { front = head 5 (pair_count ps); rest = pairs_spelling ps; is_head = head_is 5 (pair_count ps) h.1; is_rest = pairs_spell ps h.2; whole = refl })
  spells (tag n d) h = record { front = head 6 n; rest = spelling d; is_head = head_is 6 n h.0; is_rest = spells d h.1; whole = refl }
  spells (bool b) h = refl
  spells null h = refl

  pub items_spell : (ds : Items) → HaveSpellings ds → SpellsItems (items_spelling ds) ds
  items_spell no_items h = refl
  items_spell (item d ds) h = (spelling d, items_spelling ds, spells d h.0, items_spell ds h.1, refl)

  pub pairs_spell : (ps : Pairs) → PairsHaveSpellings ps → SpellsPairs (pairs_spelling ps) ps
  pairs_spell no_pairs h = refl
  pairs_spell (pair k v ps) h = (spelling k, spelling v, pairs_spelling ps, spells k h.0, spells v h.1, pairs_spell ps h.2, refl)

-- ---- what is spelled has a spelling

mutual
  pub has : (bytes : List ℕ) (d : DataItem) → Spells bytes d → HasSpelling d
  has bytes (unsigned n) s = head_fits 0 n bytes s
  has bytes (negative n) s = head_fits 1 n bytes s
  has bytes (byte_string content) s = head_fits 2 (length content) s.front s.is_head
  has bytes (text_string content) s = (s.0, head_fits 3 (length content) s.1.front s.1.is_head)
  has bytes (array ds) s = (head_fits 4 (item_count ds) s.front s.is_head, items_have s.rest ds s.is_rest)
  has bytes (map ps) s = (s.0, head_fits 5 (pair_count ps) s.1.front s.1.is_head, pairs_have s.1.rest ps s.1.is_rest)
  has bytes (tag n d) s = (head_fits 6 n s.front s.is_head, has s.rest d s.is_rest)
  has bytes (bool b) s = tt
  has bytes null s = tt

  pub items_have : (bytes : List ℕ) (ds : Items) → SpellsItems bytes ds → HaveSpellings ds
  items_have bytes no_items s = tt
  items_have bytes (item d ds) (front, rest, one, others, whole) = (has front d one, items_have rest ds others)

  pub pairs_have : (bytes : List ℕ) (ps : Pairs) → SpellsPairs bytes ps → PairsHaveSpellings ps
  pairs_have bytes no_pairs s = tt
  pairs_have bytes (pair k v ps) (key, value, rest, is_key, is_value, others, whole) = (has key k is_key, has value v is_value, pairs_have rest ps others)
