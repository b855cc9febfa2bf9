-- Items in their bytes.
use Rattle.std.proofs.Common.{◌≡◌, ℕ, zero, suc, ◌+◌, ◌-◌, ◌<◌, ◌≤◌, ◌≢◌, true, false, List, [], ◌∷◌, ◌++◌, length, Some, None, Ok, Err, refl, sym, ap, ap₂, subst, ◌∙◌, append_assoc, arith, eq-eqb}
use Rattle.std.specs.Str.{IsUtf8}
use Rattle.std.proofs.lemmas.Bool.{ne_eqb}
use Rattle.std.proofs.lemmas.List.{append-nil}
use Rattle.osc_cbor.specs.{DataItem, unsigned, negative, byte_string, text_string, array, map, tag, bool, null, Items, no_items, item, Pairs, no_pairs, pair, item_count, pair_count, nesting, items_nesting, pairs_nesting, most_nesting, value_under, item_of, rest_of, item_in, items_in, pairs_in, Stands, AreItems, ArePairs, Opens, Found, item_at, Spells, SpellsItems, SpellsPairs, IsWhole, items_of, pairs_of}
use Rattle.osc_cbor.specs.Parts as part
use Rattle.osc_cbor.specs.Inner.Tokens.{Token, token_at, inside}
use Rattle.osc_cbor.specs.declared.error.ReadError.{ReadError}
use Rattle.osc_cbor.proofs.AgainLaws.{item_again}
use Rattle.osc_cbor.proofs.Steps.{ok_is}
use Rattle.osc_cbor.proofs.TokenLaws.{plain_token, follows_token, bytes_token, text_token, simple_token, kind_front, array_front, pending_start, pending_step, pending_refused, pending_done}

-- ---- one item

pub item_in_is : (bytes : List ℕ) (d : DataItem) → IsWhole bytes d → item_in bytes ≡ d
item_in_is bytes d w = ap item_of (ap (item_at 9) (sym (append-nil bytes)) ∙ item_again 9 d bytes [] w.spelled (omega (arith, w.shallow)))

pub whole_in : (bytes : List ℕ) (d : DataItem) → IsWhole bytes d → IsWhole bytes (item_in bytes)
whole_in bytes d w = subst (IsWhole bytes) (sym (item_in_is bytes d w)) w

-- an item at the beginning of the bytes
pub stands_read : (bytes : List ℕ) (s : Stands bytes) → item_at 9 bytes ≡ Ok (s.first, s.rest)
stands_read bytes s = ap (item_at 9) s.whole ∙ item_again 9 s.first s.front s.rest s.spelled (omega (arith, s.shallow))

front_is : (bytes front : List ℕ) (s : Stands bytes) → front ≡ s.front → IsWhole front s.first
front_is bytes front s is = subst (λ (x : List ℕ). IsWhole x s.first) (sym is) (record { spelled = s.spelled; shallow = s.shallow })

pub front_whole : (bytes front : List ℕ) (s : Stands bytes) → front ≡ s.front → IsWhole front (item_in front)
front_whole bytes front s is = whole_in front s.first (front_is bytes front s is)

pub front_read : (bytes front rest : List ℕ) (s : Stands bytes) → front ≡ s.front → rest ≡ s.rest → item_at 9 bytes ≡ Ok (item_in front, rest)
front_read bytes front rest s is after =
    stands_read bytes s ∙ ap₂ (λ (d : DataItem) (x : List ℕ). Ok (d, x)) (sym (item_in_is front s.first (front_is bytes front s is))) (sym after)

-- nothing is inside it
pub leaf_passed : (bytes : List ℕ) (t : Token) (after : List ℕ) (d : DataItem) (front rest : List ℕ) → token_at bytes ≡ Ok (t, after) → inside t.0 t.1 ≡ 0 → Spells front d → bytes ≡ front ++ rest → after ≡ rest
leaf_passed bytes t after d front rest read none s whole =
    pending_done (1 - 1 + inside t.0 t.1) after rest (pending_step 1 bytes rest t after (pending_start bytes d front rest s whole) (omega arith) read) (omega (arith, none))

-- ---- an item opened

same_token : (bytes : List ℕ) (u : Token) (inner : List ℕ) (t : Token) (after : List ℕ) → token_at (bytes ++ []) ≡ Ok (u, inner) → token_at bytes ≡ Ok (t, after) → (u ≡ t) × (inner ≡ after)
same_token bytes u inner t after one other =
    let is : ◌≡◌ {A = Token × List ℕ} (u, inner) (t, after) = ok_is (u, inner) (t, after) (sym one ∙ ap token_at (append-nil bytes) ∙ other) in
    (ap (λ (x : Token × List ℕ). x.0) is, ap (λ (x : Token × List ℕ). x.1) is)

major_is : (u t : Token) → u ≡ t → t.0 ≡ u.0
major_is u t is = sym (ap (λ (x : Token). x.0) is)

argument_is : (u t : Token) → u ≡ t → t.1 ≡ u.1
argument_is u t is = sym (ap (λ (x : Token). x.1) is)

content_is : (u t : Token) → u ≡ t → t.2 ≡ u.2
content_is u t is = sym (ap (λ (x : Token). x.2) is)

pub opens : (bytes : List ℕ) (d : DataItem) (t : Token) (after : List ℕ) → Spells bytes d → token_at bytes ≡ Ok (t, after) → Opens d t.0 t.1 t.2 after
opens bytes (unsigned n) t after s read =
    let u = same_token bytes (0, n, []) [] t after (plain_token 0 n bytes [] (omega arith) (omega arith) (omega arith) s) read in
    (major_is (0, n, []) t u.0, argument_is (0, n, []) t u.0)
opens bytes (negative n) t after s read =
    let u = same_token bytes (1, n, []) [] t after (plain_token 1 n bytes [] (omega arith) (omega arith) (omega arith) s) read in
    (major_is (1, n, []) t u.0, argument_is (1, n, []) t u.0)
opens bytes (byte_string content) t after s read =
    let u = same_token bytes (2, length content, content) [] t after (bytes_token content bytes [] s) read in
    (major_is (2, length content, content) t u.0, content_is (2, length content, content) t u.0)
opens bytes (text_string content) t after s read =
    let u = same_token bytes (3, length content, content) [] t after (text_token content bytes [] s.1) read in
    (major_is (3, length content, content) t u.0, content_is (3, length content, content) t u.0)
opens bytes (array ds) t after s read =
    let u = same_token bytes (4, item_count ds, []) (s.rest ++ []) t after (follows_token 4 (item_count ds) (λ rest. SpellsItems rest ds) bytes [] (omega arith) (omega arith) (omega arith) s) read in
    (major_is (4, item_count ds, []) t u.0, argument_is (4, item_count ds, []) t u.0, subst (λ (x : List ℕ). SpellsItems x ds) (sym (append-nil s.rest) ∙ u.1) s.is_rest)
opens bytes (map ps) t after s read =
    let u = same_token bytes (5, pair_count ps, []) (s.1.rest ++ []) t after (follows_token 5 (pair_count ps) (λ rest. SpellsPairs rest ps) bytes [] (omega arith) (omega arith) (omega arith) s.1) read in
    (major_is (5, pair_count ps, []) t u.0, argument_is (5, pair_count ps, []) t u.0, subst (λ (x : List ℕ). SpellsPairs x ps) (sym (append-nil s.1.rest) ∙ u.1) s.1.is_rest)
opens bytes (tag n d) t after s read =
    let u = same_token bytes (6, n, []) (s.rest ++ []) t after (follows_token 6 n (λ rest. Spells rest d) bytes [] (omega arith) (omega arith) (omega arith) s) read in
    (major_is (6, n, []) t u.0, argument_is (6, n, []) t u.0, subst (λ (x : List ℕ). Spells x d) (sym (append-nil s.rest) ∙ u.1) s.is_rest)
opens bytes (bool true) t after s read = major_is (7, 21, []) t (same_token bytes (7, 21, []) [] t after (simple_token 21 bytes [] (omega arith) s) read).0
opens bytes (bool false) t after s read = major_is (7, 20, []) t (same_token bytes (7, 20, []) [] t after (simple_token 20 bytes [] (omega arith) s) read).0
opens bytes null t after s read = major_is (7, 22, []) t (same_token bytes (7, 22, []) [] t after (simple_token 22 bytes [] (omega arith) s) read).0

module _ (argument : ℕ) (content inner : List ℕ) where
  -- what an array is
  pub items_if : (d : DataItem) (major : ℕ) → Opens d major argument content inner → major ≡ 4 → (ds : Items) × (d ≡ array ds) × (argument ≡ item_count ds) × SpellsItems inner ds
  items_if (array ds) major o e = (ds, refl, o.1, o.2)
  items_if (unsigned n) major o e = absurd (omega (arith, o.0))
  items_if (negative n) major o e = absurd (omega (arith, o.0))
  items_if (byte_string x) major o e = absurd (omega (arith, o.0))
  items_if (text_string x) major o e = absurd (omega (arith, o.0))
  items_if (map ps) major o e = absurd (omega (arith, o.0))
  items_if (tag n d) major o e = absurd (omega (arith, o.0))
  items_if (bool b) major o e = absurd (omega (arith, o))
  items_if null major o e = absurd (omega (arith, o))

  -- what a map is
  pub pairs_if : (d : DataItem) (major : ℕ) → Opens d major argument content inner → major ≡ 5 → (ps : Pairs) × (d ≡ map ps) × (argument ≡ pair_count ps) × SpellsPairs inner ps
  pairs_if (map ps) major o e = (ps, refl, o.1, o.2)
  pairs_if (unsigned n) major o e = absurd (omega (arith, o.0))
  pairs_if (negative n) major o e = absurd (omega (arith, o.0))
  pairs_if (byte_string x) major o e = absurd (omega (arith, o.0))
  pairs_if (text_string x) major o e = absurd (omega (arith, o.0))
  pairs_if (array ds) major o e = absurd (omega (arith, o.0))
  pairs_if (tag n d) major o e = absurd (omega (arith, o.0))
  pairs_if (bool b) major o e = absurd (omega (arith, o))
  pairs_if null major o e = absurd (omega (arith, o))

  -- what a tagged item is
  pub tag_if : (d : DataItem) (major : ℕ) → Opens d major argument content inner → major ≡ 6 → (e : DataItem) × (d ≡ tag argument e) × Spells inner e
  tag_if (tag n d) major o e = (d, ap (λ (x : ℕ). tag x d) (sym o.1), o.2)
  tag_if (unsigned n) major o e = absurd (omega (arith, o.0))
  tag_if (negative n) major o e = absurd (omega (arith, o.0))
  tag_if (byte_string x) major o e = absurd (omega (arith, o.0))
  tag_if (text_string x) major o e = absurd (omega (arith, o.0))
  tag_if (array ds) major o e = absurd (omega (arith, o.0))
  tag_if (map ps) major o e = absurd (omega (arith, o.0))
  tag_if (bool b) major o e = absurd (omega (arith, o))
  tag_if null major o e = absurd (omega (arith, o))

pub inner_whole : (d e : DataItem) (n : ℕ) (inner : List ℕ) → d ≡ tag n e → Spells inner e → nesting d ≤ most_nesting → IsWhole inner e
inner_whole d e n inner is spelled shallow =
    let h : nesting (tag n e) ≤ most_nesting = subst (λ (x : DataItem). nesting x ≤ most_nesting) is shallow in
    record { spelled = spelled; shallow = omega (arith, h) }

pub tag_is : (d : DataItem) (n : ℕ) (e x : DataItem) → d ≡ tag n e → x ≡ e → Some (n, x) ≡ part.as_tag d
tag_is d n e x is same = ap (λ (y : DataItem). Some (n, y)) same ∙ sym (ap part.as_tag is)

-- the bytes of a text are UTF-8
pub text_is : (bytes : List ℕ) (d : DataItem) (major argument : ℕ) (content inner : List ℕ) → Spells bytes d → Opens d major argument content inner → major ≡ 3 → IsUtf8 content
text_is bytes (text_string x) major argument content inner s o e = subst IsUtf8 (sym o.1) s.0
text_is bytes (unsigned n) major argument content inner s o e = absurd (omega (arith, o.0))
text_is bytes (negative n) major argument content inner s o e = absurd (omega (arith, o.0))
text_is bytes (byte_string x) major argument content inner s o e = absurd (omega (arith, o.0))
text_is bytes (array ds) major argument content inner s o e = absurd (omega (arith, o.0))
text_is bytes (map ps) major argument content inner s o e = absurd (omega (arith, o.0))
text_is bytes (tag n d) major argument content inner s o e = absurd (omega (arith, o.0))
text_is bytes (bool b) major argument content inner s o e = absurd (omega (arith, o))
text_is bytes null major argument content inner s o e = absurd (omega (arith, o))

-- ---- an array of two at the beginning of the bytes

-- two items and no other
pub record Two (d : DataItem) (after rest : List ℕ) : Type 0 where
  pub one : DataItem
  pub other : DataItem
  pub front : List ℕ
  pub next : List ℕ
  pub is_one : Spells front one
  pub is_other : Spells next other
  pub whole : after ≡ front ++ (next ++ rest)
  pub are : d ≡ array (item one (item other no_items))

two_items : (ds : Items) (inner after rest : List ℕ) → SpellsItems inner ds → item_count ds ≡ 2 → inner ++ rest ≡ after → Two (array ds) after rest
two_items no_items inner after rest s count is = absurd (omega (arith, count))
two_items (item a no_items) inner after rest s count is = absurd (omega (arith, count))
two_items (item a (item b (item c ds))) inner after rest s count is = absurd (omega (arith, count))
two_items (item a (item b no_items)) inner after rest (one, others, is_one, (two, none, is_two, end, parts), whole) count is =
    record {
      one = a;
      other = b;
      front = one;
      next = two;
      is_one = is_one;
      is_other = is_two;
      whole = sym is ∙ ap (λ (x : List ℕ). x ++ rest) (whole ∙ ap (λ (x : List ℕ). one ++ x) (parts ∙ ap (λ (x : List ℕ). two ++ x) end ∙ append-nil two)) ∙ append_assoc one two rest;
      are = refl;
    }

two_of : (front : List ℕ) (d : DataItem) (rest : List ℕ) (t : Token) (after : List ℕ) (s : Spells front d) → token_at (front ++ rest) ≡ Ok (t, after) → t.0 ≡ 4 → t.1 ≡ 2 → Two d after rest
two_of front (array ds) rest t after s read is_array is_two =
    let k = array_front front ds rest t after s read in
    two_items ds s.rest after rest s.is_rest (k.1 ∙ is_two) k.2
two_of front (unsigned n) rest t after s read is_array is_two = absurd (omega (arith, kind_front front (unsigned n) rest t after s read))
two_of front (negative n) rest t after s read is_array is_two = absurd (omega (arith, kind_front front (negative n) rest t after s read))
two_of front (byte_string x) rest t after s read is_array is_two = absurd (omega (arith, kind_front front (byte_string x) rest t after s read))
two_of front (text_string x) rest t after s read is_array is_two = absurd (omega (arith, kind_front front (text_string x) rest t after s read))
two_of front (map ps) rest t after s read is_array is_two = absurd (omega (arith, kind_front front (map ps) rest t after s read))
two_of front (tag n d) rest t after s read is_array is_two = absurd (omega (arith, kind_front front (tag n d) rest t after s read))
two_of front (bool b) rest t after s read is_array is_two = absurd (omega (arith, kind_front front (bool b) rest t after s read))
two_of front null rest t after s read is_array is_two = absurd (omega (arith, kind_front front null rest t after s read))

module _ (bytes : List ℕ) (s : Stands bytes) where
  -- a token is there
  pub stands_token : (e : ReadError) → token_at bytes ≡ Err e → ⊥
  stands_token e refused = pending_refused 1 bytes s.rest e (pending_start bytes s.first s.front s.rest s.spelled s.whole) (omega arith) refused

  module _ (t : Token) (after : List ℕ) (read : token_at bytes ≡ Ok (t, after)) where
    -- of an array of two it is this one
    pub two_token : (a b : DataItem) (rest : List ℕ) → item_at 9 bytes ≡ Ok (array (item a (item b no_items)), rest) → (t.0 ≡ 4) × (t.1 ≡ 2)
    two_token a b rest found =
        let is : s.first ≡ array (item a (item b no_items)) = ap item_of (sym (stands_read bytes s) ∙ found) in
        let spelled : Spells s.front (array (item a (item b no_items))) = subst (Spells s.front) is s.spelled in
        let k = array_front s.front (item a (item b no_items)) s.rest t after spelled (ap token_at (sym s.whole) ∙ read) in
        (sym k.0, sym k.1)

    -- and after that one they are
    pub two_inside : t.0 ≡ 4 → t.1 ≡ 2 → Two s.first after s.rest
    two_inside is_array is_two = two_of s.front s.first s.rest t after s.spelled (ap token_at (sym s.whole) ∙ read) is_array is_two

module _ (d : DataItem) (after rest : List ℕ) (x : Two d after rest) (shallow : nesting d ≤ most_nesting) where
  two_shallow : nesting (array (item x.one (item x.other no_items))) ≤ most_nesting
  two_shallow = subst (λ (y : DataItem). nesting y ≤ most_nesting) x.are shallow

  pub one_stands : Stands after
  one_stands = let h = two_shallow in record { first = x.one; front = x.front; rest = x.next ++ rest; spelled = x.is_one; shallow = omega (arith, h); whole = x.whole }

  pub other_stands : (one : DataItem) (next : List ℕ) → item_at 9 after ≡ Ok (one, next) → Stands next
  unfolding one_stands
  other_stands one next read =
      let h = two_shallow in
      record { first = x.other; front = x.next; rest = rest; spelled = x.is_other; shallow = omega (arith, h); whole = sym (ap rest_of (sym (stands_read after one_stands) ∙ read)) }

  pub two_read : (one : DataItem) (next : List ℕ) (other : DataItem) (end : List ℕ) → item_at 9 after ≡ Ok (one, next) → item_at 9 next ≡ Ok (other, end)
      → ◌≡◌ {A = Found} (Ok (d, rest)) (Ok (array (item one (item other no_items)), end))
  unfolding one_stands other_stands
  two_read one next other end read read_other =
      let is_one : x.one ≡ one = ap item_of (sym (stands_read after one_stands) ∙ read) in
      let again = sym (stands_read next (other_stands one next read)) ∙ read_other in
      let is_other : x.other ≡ other = ap item_of again in
      let is_end : rest ≡ end = ap rest_of again in
      ap₂ (λ (y : DataItem) (z : List ℕ). Ok (y, z)) (x.are ∙ ap₂ (λ (y z : DataItem). array (item y (item z no_items))) is_one is_other) is_end

-- ---- items one after the other

-- the first of them
record FirstItem (count : ℕ) (bytes : List ℕ) : Type 0 where
  pub first : DataItem
  pub others : Items
  pub one : List ℕ
  pub rest : List ℕ
  pub is_first : Spells one first
  pub are_others : SpellsItems rest others
  pub counted : suc (item_count others) ≡ count
  pub deep : nesting first < most_nesting
  pub shallow : items_nesting others ≤ most_nesting
  pub whole : bytes ≡ one ++ rest

first_item_of : (count : ℕ) (bytes : List ℕ) (ds : Items) → SpellsItems bytes ds → item_count ds ≡ count → items_nesting ds ≤ most_nesting → 0 < count → FirstItem count bytes
first_item_of count bytes no_items s counted shallow some = absurd (omega arith)
first_item_of count bytes (item d ds) (one, rest, is_one, are_others, whole) counted shallow some =
    record { first = d; others = ds; one = one; rest = rest; is_first = is_one; are_others = are_others; counted = counted; deep = omega (arith, shallow); shallow = omega (arith, shallow); whole = whole }

first_of : (count : ℕ) (bytes : List ℕ) → AreItems count bytes → 0 < count → FirstItem count bytes
first_of count bytes a some = first_item_of count bytes a.items a.spelled a.counted a.shallow some

first_read : (count : ℕ) (bytes : List ℕ) (f : FirstItem count bytes) → item_at 9 bytes ≡ Ok (f.first, f.rest)
first_read count bytes f = ap (item_at 9) f.whole ∙ item_again 9 f.first f.one f.rest f.is_first (omega (arith, f.deep))

pub items_stand : (count : ℕ) (bytes : List ℕ) → AreItems count bytes → 0 < count → Stands bytes
items_stand count bytes a some =
    let f = first_of count bytes a some in
    record { first = f.first; front = f.one; rest = f.rest; spelled = f.is_first; shallow = omega (arith, f.deep); whole = f.whole }

pub items_left : (count : ℕ) (bytes : List ℕ) (d : DataItem) (rest : List ℕ) → AreItems count bytes → 0 < count → item_at 9 bytes ≡ Ok (d, rest) → AreItems (count - 1) rest
items_left count bytes d rest a some read =
    let f = first_of count bytes a some in
    let after : f.rest ≡ rest = ap rest_of (sym (first_read count bytes f) ∙ read) in
    record { items = f.others; spelled = subst (λ (x : List ℕ). SpellsItems x f.others) after f.are_others; counted = omega (arith, f.counted); shallow = f.shallow }

-- the first of those that are left
pub items_first : (count : ℕ) (bytes : List ℕ) → AreItems count bytes → 0 < count → (d : DataItem) (others : List DataItem) → items_in count bytes ≡ d ∷ others → (rest : List ℕ) × (item_at 9 bytes ≡ Ok (d, rest))
items_first zero bytes a some d others e = absurd (omega arith)
items_first (suc n) bytes a some d others e =
    let f = first_of (suc n) bytes a some in
    let read = first_read (suc n) bytes f in
    let is : f.first ≡ d = ap item_of (sym read) ∙ same (item_in bytes) d _ others e in
    (f.rest, read ∙ ap (λ (x : DataItem). Ok (x, f.rest)) is)
  where
    same : (x y : DataItem) (xs ys : List DataItem) → x ∷ xs ≡ y ∷ ys → x ≡ y
    same x y xs ys e = cc

pub items_are : (ds : Items) (bytes : List ℕ) → SpellsItems bytes ds → items_nesting ds ≤ most_nesting → items_of (items_in (item_count ds) bytes) ≡ ds
items_are no_items bytes s shallow = refl
items_are (item d ds) bytes (one, rest, is_one, are_others, whole) shallow =
    let read : item_at 9 bytes ≡ Ok (d, rest) = ap (item_at 9) whole ∙ item_again 9 d one rest is_one (omega (arith, shallow)) in
    rw read (ap (item d) (items_are ds rest are_others (omega (arith, shallow))))

pub array_is : (d : DataItem) (ds : Items) (argument : ℕ) (inner : List ℕ) → d ≡ array ds → argument ≡ item_count ds → SpellsItems inner ds → nesting d ≤ most_nesting → Some (items_of (items_in argument inner)) ≡ part.as_array d
array_is d ds argument inner is counted spelled shallow =
    ap (λ (n : ℕ). Some (items_of (items_in n inner))) counted
    ∙ ap (λ (x : Items). Some x) (items_are ds inner spelled (subst (λ (x : DataItem). nesting x ≤ most_nesting) is shallow)) ∙ sym (ap part.as_array is)

-- ---- pairs one after the other

record FirstPair (count : ℕ) (bytes : List ℕ) : Type 0 where
  pub key : DataItem
  pub value : DataItem
  pub others : Pairs
  pub key_bytes : List ℕ
  pub value_bytes : List ℕ
  pub rest : List ℕ
  pub is_key : Spells key_bytes key
  pub is_value : Spells value_bytes value
  pub are_others : SpellsPairs rest others
  pub counted : suc (pair_count others) ≡ count
  pub deep_key : nesting key < most_nesting
  pub deep_value : nesting value < most_nesting
  pub shallow : pairs_nesting others ≤ most_nesting
  pub whole : bytes ≡ key_bytes ++ (value_bytes ++ rest)

first_pair_of : (count : ℕ) (bytes : List ℕ) (ps : Pairs) → SpellsPairs bytes ps → pair_count ps ≡ count → pairs_nesting ps ≤ most_nesting → 0 < count → FirstPair count bytes
first_pair_of count bytes no_pairs s counted shallow some = absurd (omega arith)
first_pair_of count bytes (pair k v ps) (key, value, rest, is_key, is_value, are_others, whole) counted shallow some = record {
  key = k;
  value = v;
  others = ps;
  key_bytes = key;
  value_bytes = value;
  rest = rest;
  is_key = is_key;
  is_value = is_value;
  are_others = are_others;
  counted = counted;
  deep_key = omega (arith, shallow);
  deep_value = omega (arith, shallow);
  shallow = omega (arith, shallow);
  whole = whole ∙ append_assoc key value rest;
}

pair_of : (count : ℕ) (bytes : List ℕ) → ArePairs count bytes → 0 < count → FirstPair count bytes
pair_of count bytes a some = first_pair_of count bytes a.pairs a.spelled a.counted a.shallow some

key_read : (count : ℕ) (bytes : List ℕ) (f : FirstPair count bytes) → item_at 9 bytes ≡ Ok (f.key, f.value_bytes ++ f.rest)
key_read count bytes f = ap (item_at 9) f.whole ∙ item_again 9 f.key f.key_bytes (f.value_bytes ++ f.rest) f.is_key (omega (arith, f.deep_key))

value_read : (count : ℕ) (bytes : List ℕ) (f : FirstPair count bytes) → item_at 9 (f.value_bytes ++ f.rest) ≡ Ok (f.value, f.rest)
value_read count bytes f = item_again 9 f.value f.value_bytes f.rest f.is_value (omega (arith, f.deep_value))

pub key_stands : (count : ℕ) (bytes : List ℕ) → ArePairs count bytes → 0 < count → Stands bytes
key_stands count bytes a some =
    let f = pair_of count bytes a some in
    record { first = f.key; front = f.key_bytes; rest = f.value_bytes ++ f.rest; spelled = f.is_key; shallow = omega (arith, f.deep_key); whole = f.whole }

pub value_stands : (count : ℕ) (bytes : List ℕ) (k : DataItem) (behind_key : List ℕ) → ArePairs count bytes → 0 < count → item_at 9 bytes ≡ Ok (k, behind_key) → Stands behind_key
value_stands count bytes k behind_key a some read =
    let f = pair_of count bytes a some in
    record { first = f.value; front = f.value_bytes; rest = f.rest; spelled = f.is_value; shallow = omega (arith, f.deep_value); whole = sym (ap rest_of (sym (key_read count bytes f) ∙ read)) }

pub pairs_left : (count : ℕ) (bytes : List ℕ) (k : DataItem) (behind_key : List ℕ) (v : DataItem) (rest : List ℕ) → ArePairs count bytes → 0 < count
    → item_at 9 bytes ≡ Ok (k, behind_key) → item_at 9 behind_key ≡ Ok (v, rest) → ArePairs (count - 1) rest
pairs_left count bytes k behind_key v rest a some read_key read_value =
    let f = pair_of count bytes a some in
    let behind : f.value_bytes ++ f.rest ≡ behind_key = ap rest_of (sym (key_read count bytes f) ∙ read_key) in
    let after : f.rest ≡ rest = ap rest_of (sym (value_read count bytes f) ∙ ap (item_at 9) behind ∙ read_value) in
    record { pairs = f.others; spelled = subst (λ (x : List ℕ). SpellsPairs x f.others) after f.are_others; counted = omega (arith, f.counted); shallow = f.shallow }

-- what is left has under these labels what all have
abbrev pub HaveSame : ℕ → ℕ → List (DataItem × DataItem) → List (DataItem × DataItem) → Type 0
HaveSame least most all left = (label : ℕ) → least ≤ label → label ≤ most → value_under label (pairs_of all) ≡ value_under label (pairs_of left)

-- a pair whose key is no number, or another one, is passed
pub no_number : (k v : DataItem) (ps : Pairs) (label : ℕ) → part.as_unsigned k ≡ None → value_under label (pair k v ps) ≡ value_under label ps
no_number (unsigned n) v ps label e = absurd (some_or_none n e)
  where
    some_or_none : (n : ℕ) → Some n ≡ None → ⊥
    some_or_none n e = cc
no_number (negative n) v ps label e = refl
no_number (byte_string x) v ps label e = refl
no_number (text_string x) v ps label e = refl
no_number (array ds) v ps label e = refl
no_number (map qs) v ps label e = refl
no_number (tag n d) v ps label e = refl
no_number (bool b) v ps label e = refl
no_number null v ps label e = refl

pub is_number : (k : DataItem) (n : ℕ) → part.as_unsigned k ≡ Some n → k ≡ unsigned n
is_number (unsigned m) n e = ap unsigned (some_is m n e)
  where
    some_is : (m n : ℕ) → Some m ≡ Some n → m ≡ n
    some_is m n e = cc
is_number (negative m) n e = cc
is_number (byte_string x) n e = cc
is_number (text_string x) n e = cc
is_number (array ds) n e = cc
is_number (map ps) n e = cc
is_number (tag m d) n e = cc
is_number (bool b) n e = cc
is_number null n e = cc

pub other_number : (k v : DataItem) (ps : Pairs) (label n : ℕ) → part.as_unsigned k ≡ Some n → label ≢ n → value_under label (pair k v ps) ≡ value_under label ps
other_number k v ps label n e other = ap (λ (x : DataItem). value_under label (pair x v ps)) (is_number k n e) ∙ rw (ne_eqb label n other) refl

pub its_number : (label : ℕ) (v : DataItem) (ps : Pairs) → value_under label (pair (unsigned label) v ps) ≡ Some v
its_number label v ps = rw (eq-eqb label label refl) refl

pub pairs_are : (ps : Pairs) (bytes : List ℕ) → SpellsPairs bytes ps → pairs_nesting ps ≤ most_nesting → pairs_of (pairs_in (pair_count ps) bytes) ≡ ps
pairs_are no_pairs bytes s shallow = refl
pairs_are (pair k v ps) bytes (key, value, rest, is_key, is_value, are_others, whole) shallow =
    let read_key : item_at 9 bytes ≡ Ok (k, value ++ rest) = ap (item_at 9) (whole ∙ append_assoc key value rest) ∙ item_again 9 k key (value ++ rest) is_key (omega (arith, shallow)) in
    let read_value : item_at 9 (value ++ rest) ≡ Ok (v, rest) = item_again 9 v value rest is_value (omega (arith, shallow)) in
    rw (read_key, read_value) (ap (pair k v) (pairs_are ps rest are_others (omega (arith, shallow))))

pub map_is : (d : DataItem) (ps : Pairs) (argument : ℕ) (inner : List ℕ) → d ≡ map ps → argument ≡ pair_count ps → SpellsPairs inner ps → nesting d ≤ most_nesting → Some (pairs_of (pairs_in argument inner)) ≡ part.as_map d
map_is d ps argument inner is counted spelled shallow =
    ap (λ (n : ℕ). Some (pairs_of (pairs_in n inner))) counted
    ∙ ap (λ (x : Pairs). Some x) (pairs_are ps inner spelled (subst (λ (x : DataItem). nesting x ≤ most_nesting) is shallow)) ∙ sym (ap part.as_map is)
