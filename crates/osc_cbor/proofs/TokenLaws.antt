-- Items as rows of tokens.
use Rattle.std.proofs.Common.{◌≡◌, ◌≢◌, ℕ, suc, ◌+◌, ◌-◌, ◌*◌, ◌/◌, ◌%◌, ◌<◌, ◌≤◌, true, false, ◌==◌, ◌||◌, cond, ltb, nat_eq, min, List, [], ◌∷◌, ◌++◌, length, take, drop, Ok, Err, refl, sym, ap, ap₂, subst, ◌∙◌, append_assoc, arith, inl, inr}
use Rattle.std.specs.Int.{Width, w8, w16, w32, w64, byte_len, from_be_bytes}
use Rattle.std.proofs.lemmas.Bool.{ne_eqb, or_left, false≢true, false_from_ne_true}
use Rattle.std.proofs.lemmas.List.{append-nil, length-append, length-drop}
use Rattle.osc_cbor.specs.{DataItem, unsigned, negative, byte_string, text_string, array, map, tag, bool, null, Items, no_items, item, Pairs, no_pairs, pair, item_count, pair_count, IsHead, head, Spells, SpellsItems, SpellsPairs, Follows, spelling, items_spelling, pairs_spelling, ◌>>=◌, number_at, argument_at, string_at, same, has_key}
use Rattle.osc_cbor.specs.Inner.Tokens.{Token, token_behind, token_at, Stream, tokens, items_tokens, pairs_tokens, inside, Alike, Pending, Keys}
use Rattle.osc_cbor.specs.declared.error.ReadError.{ReadError}
use Rattle.osc_cbor.specs.declared.error.ReadError.TheVariants.{Truncated, Unsupported}
use Rattle.osc_cbor.proofs.Steps.{bind_ok, chosen, ok_is, ok_or_err}
use Rattle.osc_cbor.proofs.HeadLaws.{below_24, is_24, is_25, is_26, is_27, from_28, bits_case, argument_inline, argument_24, argument_25, argument_26, argument_27, argument_reserved, argument_again, major_part, bits_part}
use Rattle.osc_cbor.proofs.KeyLaws.{same_means, same_itself}
use Rattle.osc_cbor.proofs.AgainLaws.{string_again}
use Rattle.osc_cbor.proofs.OneItem.{one_item, spells, has}

pub some_bytes : (bytes : List ℕ) → nat_eq (length bytes) 0 ≡ false → bytes ≢ []
some_bytes bytes e none = false≢true (sym e ∙ ap (λ (x : List ℕ). nat_eq (length x) 0) none)

pub no_bytes : (bytes : List ℕ) → nat_eq (length bytes) 0 ≡ true → bytes ≡ []
no_bytes [] e = refl
no_bytes (b ∷ bytes) e = absurd (false≢true (sym (ne_eqb (length (b ∷ bytes)) 0 (omega arith)) ∙ e))

-- ---- the token at the front of what is spelled

token_headed : (major n : ℕ) (front after : List ℕ) → major < 7 → IsHead major n front → token_at (front ++ after) ≡ token_behind major n after
unfolding token_at
token_headed major n front after low is =
    let h = argument_again major n front after is in
    let first = 32 * major + h.bits in
    let high : first / 32 ≡ major = major_part major h.bits (omega (arith, h.below)) in
    let bits : first % 32 ≡ h.bits = bits_part major h.bits (omega (arith, h.below)) in
    let test : (major == 7) ≡ false = ne_eqb major 7 (omega arith) in
    rw (h.first, high, bits, test, h.read) refl

plain_behind : (major n : ℕ) (after : List ℕ) → major ≢ 2 → major ≢ 3 → token_behind major n after ≡ Ok ((major, n, []), after)
unfolding token_behind
plain_behind major n after a b = rw (ne_eqb major 2 a, ne_eqb major 3 b) refl

bytes_behind : (content after : List ℕ) → token_behind 2 (length content) (content ++ after) ≡ Ok ((2, length content, content), after)
unfolding token_behind
bytes_behind content after = rw (string_again content after) refl

text_behind : (content after : List ℕ) → token_behind 3 (length content) (content ++ after) ≡ Ok ((3, length content, content), after)
unfolding token_behind
text_behind content after = rw (string_again content after) refl

-- a head with no string after it
pub plain_token : (major n : ℕ) (front after : List ℕ) → major < 7 → major ≢ 2 → major ≢ 3 → IsHead major n front → token_at (front ++ after) ≡ Ok ((major, n, []), after)
plain_token major n front after low a b is = token_headed major n front after low is ∙ plain_behind major n after a b

-- a head and what follows it
pub follows_token : (major n : ℕ) (Rest : List ℕ → Type 0) (bytes after : List ℕ) → major < 7 → major ≢ 2 → major ≢ 3 → (f : Follows major n Rest bytes) → token_at (bytes ++ after) ≡ Ok ((major, n, []), f.rest ++ after)
follows_token major n Rest bytes after low a b f =
    ap (λ (x : List ℕ). token_at (x ++ after)) f.whole ∙ ap token_at (append_assoc f.front f.rest after) ∙ plain_token major n f.front (f.rest ++ after) low a b f.is_head

pub bytes_token : (content bytes after : List ℕ) → Follows 2 (length content) (λ rest. rest ≡ content) bytes → token_at (bytes ++ after) ≡ Ok ((2, length content, content), after)
bytes_token content bytes after f =
    ap (λ (x : List ℕ). token_at (x ++ after)) f.whole ∙ ap token_at (append_assoc f.front f.rest after) ∙ token_headed 2 (length content) f.front (f.rest ++ after) (omega arith) f.is_head
    ∙ ap (λ (x : List ℕ). token_behind 2 (length content) (x ++ after)) f.is_rest ∙ bytes_behind content after

pub text_token : (content bytes after : List ℕ) → Follows 3 (length content) (λ rest. rest ≡ content) bytes → token_at (bytes ++ after) ≡ Ok ((3, length content, content), after)
text_token content bytes after f =
    ap (λ (x : List ℕ). token_at (x ++ after)) f.whole ∙ ap token_at (append_assoc f.front f.rest after) ∙ token_headed 3 (length content) f.front (f.rest ++ after) (omega arith) f.is_head
    ∙ ap (λ (x : List ℕ). token_behind 3 (length content) (x ++ after)) f.is_rest ∙ text_behind content after

pub simple_token : (bits : ℕ) (bytes after : List ℕ) → bits < 32 → bytes ≡ (224 + bits) ∷ [] → token_at (bytes ++ after) ≡ Ok ((7, bits, []), after)
unfolding token_at
simple_token bits bytes after lt whole =
    let high : (224 + bits) / 32 ≡ 7 = omega (arith, major_part 7 bits lt) in
    let low : (224 + bits) % 32 ≡ bits = bits_part 7 bits lt in
    rw (whole, high, low) refl

-- ---- what is inside an item

abbrev pub join : Items → Items → Items
join no_items es = es
join (item d ds) es = item d (join ds es)

pub join_count : (ds es : Items) → item_count (join ds es) ≡ item_count ds + item_count es
join_count no_items es = omega arith
join_count (item d ds) es = let h = join_count ds es in omega arith

pub join_spelled : (a b : List ℕ) (ds es : Items) → SpellsItems a ds → SpellsItems b es → SpellsItems (a ++ b) (join ds es)
join_spelled a b no_items es is others = subst (λ (x : List ℕ). SpellsItems (x ++ b) es) (sym is) others
join_spelled a b (item d ds) es (front, rest, one, more, whole) others =
    (front, rest ++ b, one, join_spelled rest b ds es more others, ap (λ (x : List ℕ). x ++ b) whole ∙ append_assoc front rest b)

abbrev pub both : Pairs → Items
both no_pairs = no_items
both (pair k v ps) = item k (item v (both ps))

pub both_count : (ps : Pairs) → item_count (both ps) ≡ 2 * pair_count ps
both_count no_pairs = refl
both_count (pair k v ps) = let h = both_count ps in omega arith

pub both_spelled : (bytes : List ℕ) (ps : Pairs) → SpellsPairs bytes ps → SpellsItems bytes (both ps)
both_spelled bytes no_pairs is = is
both_spelled bytes (pair k v ps) (key, value, rest, is_key, is_value, more, whole) =
    (key, value ++ rest, is_key, (value, rest, is_value, both_spelled rest ps more, refl), whole ∙ append_assoc key value rest)

-- an item opened: its token, and the items inside
pub record Opened (bytes : List ℕ) : Type 0 where
  pub token : Token
  pub kids : Items
  pub inner : List ℕ
  pub reads : (after : List ℕ) → token_at (bytes ++ after) ≡ Ok (token, inner ++ after)
  pub spelled : SpellsItems inner kids
  pub counted : item_count kids ≡ inside token.0 token.1

-- one with nothing inside
leaf : (bytes : List ℕ) (t : Token) → ((after : List ℕ) → token_at (bytes ++ after) ≡ Ok (t, after)) → inside t.0 t.1 ≡ 0 → Opened bytes
leaf bytes t reads none = record { token = t; kids = no_items; inner = []; reads = reads; spelled = refl; counted = sym none }

inside_array : (n : ℕ) → inside 4 n ≡ n
unfolding inside
inside_array n = refl

inside_map : (n : ℕ) → inside 5 n ≡ 2 * n
unfolding inside
inside_map n = refl

inside_tag : (n : ℕ) → inside 6 n ≡ 1
unfolding inside
inside_tag n = refl

inside_0 : (n : ℕ) → inside 0 n ≡ 0
unfolding inside
inside_0 n = refl

inside_1 : (n : ℕ) → inside 1 n ≡ 0
unfolding inside
inside_1 n = refl

inside_2 : (n : ℕ) → inside 2 n ≡ 0
unfolding inside
inside_2 n = refl

inside_3 : (n : ℕ) → inside 3 n ≡ 0
unfolding inside
inside_3 n = refl

inside_7 : (n : ℕ) → inside 7 n ≡ 0
unfolding inside
inside_7 n = refl

pub opened : (bytes : List ℕ) (d : DataItem) → Spells bytes d → Opened bytes
opened bytes (unsigned n) s = leaf bytes (0, n, []) (λ after. plain_token 0 n bytes after (omega arith) (omega arith) (omega arith) s) (inside_0 n)
opened bytes (negative n) s = leaf bytes (1, n, []) (λ after. plain_token 1 n bytes after (omega arith) (omega arith) (omega arith) s) (inside_1 n)
opened bytes (byte_string content) s = leaf bytes (2, length content, content) (λ after. bytes_token content bytes after s) (inside_2 (length content))
opened bytes (text_string content) s = leaf bytes (3, length content, content) (λ after. text_token content bytes after s.1) (inside_3 (length content))
opened bytes (array ds) s = record {
  token = (4, item_count ds, []);
  kids = ds;
  inner = s.rest;
  reads = λ after. follows_token 4 (item_count ds) (λ rest. SpellsItems rest ds) bytes after (omega arith) (omega arith) (omega arith) s;
  spelled = s.is_rest;
  counted = sym (inside_array (item_count ds));
}
opened bytes (map ps) s = record {
  token = (5, pair_count ps, []);
  kids = both ps;
  inner = s.1.rest;
  reads = λ after. follows_token 5 (pair_count ps) (λ rest. SpellsPairs rest ps) bytes after (omega arith) (omega arith) (omega arith) s.1;
  spelled = both_spelled s.1.rest ps s.1.is_rest;
  counted = both_count ps ∙ sym (inside_map (pair_count ps));
}
opened bytes (tag n d) s = record {
  token = (6, n, []);
  kids = item d no_items;
  inner = s.rest;
  reads = λ after. follows_token 6 n (λ rest. Spells rest d) bytes after (omega arith) (omega arith) (omega arith) s;
  spelled = (s.rest, [], s.is_rest, refl, sym (append-nil s.rest));
  counted = sym (inside_tag n);
}
opened bytes (bool true) s = leaf bytes (7, 21, []) (λ after. simple_token 21 bytes after (omega arith) s) (inside_7 21)
opened bytes (bool false) s = leaf bytes (7, 20, []) (λ after. simple_token 20 bytes after (omega arith) s) (inside_7 20)
opened bytes null s = leaf bytes (7, 22, []) (λ after. simple_token 22 bytes after (omega arith) s) (inside_7 22)

-- ---- the row of an item

mutual
  pub streamed : (d : DataItem) (front rest : List ℕ) (ts : List Token) → Spells front d → Stream rest ts → Stream (front ++ rest) (tokens d ts)
  streamed (unsigned n) front rest ts s more = (rest, plain_token 0 n front rest (omega arith) (omega arith) (omega arith) s, more)
  streamed (negative n) front rest ts s more = (rest, plain_token 1 n front rest (omega arith) (omega arith) (omega arith) s, more)
  streamed (byte_string content) front rest ts s more = (rest, bytes_token content front rest s, more)
  streamed (text_string content) front rest ts s more = (rest, text_token content front rest s.1, more)
  streamed (array ds) front rest ts s more = (s.rest ++ rest, follows_token 4 (item_count ds) (λ x. SpellsItems x ds) front rest (omega arith) (omega arith) (omega arith) s, items_streamed ds s.rest rest ts s.is_rest more)
  streamed (map ps) front rest ts s more = (s.1.rest ++ rest, follows_token 5 (pair_count ps) (λ x. SpellsPairs x ps) front rest (omega arith) (omega arith) (omega arith) s.1, pairs_streamed ps s.1.rest rest ts s.1.is_rest more)
  streamed (tag n d) front rest ts s more = (s.rest ++ rest, follows_token 6 n (λ x. Spells x d) front rest (omega arith) (omega arith) (omega arith) s, streamed d s.rest rest ts s.is_rest more)
  streamed (bool true) front rest ts s more = (rest, simple_token 21 front rest (omega arith) s, more)
  streamed (bool false) front rest ts s more = (rest, simple_token 20 front rest (omega arith) s, more)
  streamed null front rest ts s more = (rest, simple_token 22 front rest (omega arith) s, more)

  items_streamed : (ds : Items) (front rest : List ℕ) (ts : List Token) → SpellsItems front ds → Stream rest ts → Stream (front ++ rest) (items_tokens ds ts)
  items_streamed no_items front rest ts s more = subst (λ (x : List ℕ). Stream (x ++ rest) ts) (sym s) more
  items_streamed (item d ds) front rest ts (one, others, is_one, are_others, whole) more =
      let parts : one ++ (others ++ rest) ≡ front ++ rest = sym (ap (λ (x : List ℕ). x ++ rest) whole ∙ append_assoc one others rest) in
      subst (λ (x : List ℕ). Stream x (items_tokens (item d ds) ts)) parts (streamed d one (others ++ rest) (items_tokens ds ts) is_one (items_streamed ds others rest ts are_others more))

  pairs_streamed : (ps : Pairs) (front rest : List ℕ) (ts : List Token) → SpellsPairs front ps → Stream rest ts → Stream (front ++ rest) (pairs_tokens ps ts)
  pairs_streamed no_pairs front rest ts s more = subst (λ (x : List ℕ). Stream (x ++ rest) ts) (sym s) more
  pairs_streamed (pair k v ps) front rest ts (key, value, others, is_key, is_value, are_others, whole) more =
      let parts : key ++ (value ++ (others ++ rest)) ≡ front ++ rest = sym (ap (λ (x : List ℕ). x ++ rest) whole ∙ simp append_assoc) in
      subst (λ (x : List ℕ). Stream x (pairs_tokens (pair k v ps) ts)) parts
      (streamed k key (value ++ (others ++ rest)) (tokens v (pairs_tokens ps ts)) is_key
      (streamed v value (others ++ rest) (pairs_tokens ps ts) is_value (pairs_streamed ps others rest ts are_others more)))

pub stream : (d : DataItem) (bytes : List ℕ) → Spells bytes d → Stream bytes (tokens d [])
stream d bytes s = subst (λ (x : List ℕ). Stream x (tokens d [])) (append-nil bytes) (streamed d bytes [] [] s refl)

-- ---- items with one row are one

abbrev spelled_token : Token → List ℕ
spelled_token t = cond (t.0 == 7) ((224 + t.1) ∷ []) (head t.0 t.1 ++ t.2)

abbrev written : List Token → List ℕ
written [] = []
written (t ∷ ts) = spelled_token t ++ written ts

mutual
  row_spelled : (d : DataItem) (ts : List Token) → written (tokens d ts) ≡ spelling d ++ written ts
  row_spelled (unsigned n) ts = ap (λ (x : List ℕ). x ++ written ts) (append-nil (head 0 n))
  row_spelled (negative n) ts = ap (λ (x : List ℕ). x ++ written ts) (append-nil (head 1 n))
  row_spelled (byte_string content) ts = refl
  row_spelled (text_string content) ts = refl
  row_spelled (array ds) ts = ap₂ (λ (x y : List ℕ). x ++ y) (append-nil (head 4 (item_count ds))) (items_row ds ts) ∙ sym (append_assoc (head 4 (item_count ds)) (items_spelling ds) (written ts))
  row_spelled (map ps) ts = ap₂ (λ (x y : List ℕ). x ++ y) (append-nil (head 5 (pair_count ps))) (pairs_row ps ts) ∙ sym (append_assoc (head 5 (pair_count ps)) (pairs_spelling ps) (written ts))
  row_spelled (tag n d) ts = ap₂ (λ (x y : List ℕ). x ++ y) (append-nil (head 6 n)) (row_spelled d ts) ∙ sym (append_assoc (head 6 n) (spelling d) (written ts))
  row_spelled (bool true) ts = refl
  row_spelled (bool false) ts = refl
  row_spelled null ts = refl

  items_row : (ds : Items) (ts : List Token) → written (items_tokens ds ts) ≡ items_spelling ds ++ written ts
  items_row no_items ts = refl
  items_row (item d ds) ts = row_spelled d (items_tokens ds ts) ∙ ap (λ (x : List ℕ). spelling d ++ x) (items_row ds ts) ∙ sym (append_assoc (spelling d) (items_spelling ds) (written ts))

  pairs_row : (ps : Pairs) (ts : List Token) → written (pairs_tokens ps ts) ≡ pairs_spelling ps ++ written ts
  pairs_row no_pairs ts = refl
  pairs_row (pair k v ps) ts =
      row_spelled k (tokens v (pairs_tokens ps ts)) ∙ ap (λ (x : List ℕ). spelling k ++ x) (row_spelled v (pairs_tokens ps ts) ∙ ap (λ (x : List ℕ). spelling v ++ x) (pairs_row ps ts)) ∙ simp append_assoc

pub one_row : (a b : List ℕ) (d e : DataItem) → Spells a d → Spells b e → tokens d [] ≡ tokens e [] → d ≡ e
one_row a b d e is_a is_b same =
    (one_item (spelling d) (spelling e) [] [] d e (spells d (has a d is_a)) (spells e (has b e is_b)) (sym (row_spelled d []) ∙ ap written same ∙ row_spelled e [])).1

-- ---- a token is taken

pub token_none : token_at [] ≡ Err Truncated
unfolding token_at
token_none = refl

number_shorter : (w : Width) (bytes : List ℕ) (n : ℕ) (rest : List ℕ) → number_at w bytes ≡ Ok (n, rest) → length rest ≤ length bytes
number_shorter w bytes n rest e =
    elim (chosen (ltb (length bytes) (byte_len w)) (Err Truncated) (Ok (from_be_bytes w (take (byte_len w) bytes), drop (byte_len w) bytes)) (Ok (n, rest)) e) [
      | inl bad ↦ absurd (ok_or_err (n, rest) Truncated (sym bad.1))
      | inr g ↦
          let is : drop (byte_len w) bytes ≡ rest = ap (λ (p : ℕ × List ℕ). p.1) (ok_is (from_be_bytes w (take (byte_len w) bytes), drop (byte_len w) bytes) (n, rest) g.1) in
          omega (arith, ap length is, length-drop (byte_len w) bytes)
    ]

argument_shorter : (bits : ℕ) (bytes : List ℕ) (n : ℕ) (rest : List ℕ) → argument_at bits bytes ≡ Ok (n, rest) → length rest ≤ length bytes
argument_shorter bits bytes n rest e =
    elim (bits_case bits) [
      | below_24 lt ↦
          let is : bytes ≡ rest = ap (λ (p : ℕ × List ℕ). p.1) (ok_is (bits, bytes) (n, rest) (sym (argument_inline bits bytes lt) ∙ e)) in
          omega (arith, ap length is)
      | is_24 is ↦ number_shorter w8 bytes n rest (sym (ap (λ b. argument_at b bytes) is ∙ argument_24 bytes) ∙ e)
      | is_25 is ↦ number_shorter w16 bytes n rest (sym (ap (λ b. argument_at b bytes) is ∙ argument_25 bytes) ∙ e)
      | is_26 is ↦ number_shorter w32 bytes n rest (sym (ap (λ b. argument_at b bytes) is ∙ argument_26 bytes) ∙ e)
      | is_27 is ↦ number_shorter w64 bytes n rest (sym (ap (λ b. argument_at b bytes) is ∙ argument_27 bytes) ∙ e)
      | from_28 le ↦ absurd (ok_or_err (n, rest) Unsupported (sym e ∙ argument_reserved bits bytes le))
    ]

string_shorter : (n : ℕ) (bytes content rest : List ℕ) → string_at n bytes ≡ Ok (content, rest) → length rest ≤ length bytes
unfolding string_at
string_shorter n bytes content rest e =
    elim (chosen (ltb (length bytes) n) (Err Truncated) (Ok (take n bytes, drop n bytes)) (Ok (content, rest)) e) [
      | inl bad ↦ absurd (ok_or_err (content, rest) Truncated (sym bad.1))
      | inr g ↦
          let is : drop n bytes ≡ rest = ap (λ (p : List ℕ × List ℕ). p.1) (ok_is (take n bytes, drop n bytes) (content, rest) g.1) in
          omega (arith, ap length is, length-drop n bytes)
    ]

behind_shorter : (major n : ℕ) (bytes : List ℕ) (t : Token) (after : List ℕ) → token_behind major n bytes ≡ Ok (t, after) → length after ≤ length bytes
unfolding token_behind
behind_shorter major n bytes t after e =
    elim (chosen ((major == 2) || (major == 3)) (string_at n bytes >>= λ y. Ok ((major, n, y.0), y.1)) (Ok ((major, n, []), bytes)) (Ok (t, after)) e) [
      | inl h ↦
          let a = bind_ok (string_at n bytes) (λ y. Ok ((major, n, y.0), y.1)) (t, after) h.1 in
          let s = string_shorter n bytes a.0.0 a.0.1 a.1 in
          let is : a.0.1 ≡ after = ap (λ (p : Token × List ℕ). p.1) (ok_is ((major, n, a.0.0), a.0.1) (t, after) a.2) in
          omega (arith, ap length is)
      | inr h ↦
          let is : bytes ≡ after = ap (λ (p : Token × List ℕ). p.1) (ok_is ((major, n, []), bytes) (t, after) h.1) in
          omega (arith, ap length is)
    ]

-- a token takes a byte at least
pub token_shorter : (bytes : List ℕ) (t : Token) (after : List ℕ) → token_at bytes ≡ Ok (t, after) → length after < length bytes
unfolding token_at
token_shorter [] t after e = absurd (ok_or_err (t, after) Truncated (sym e))
token_shorter (first ∷ bytes) t after e =
    elim (chosen (first / 32 == 7) (Ok ((7, first % 32, []), bytes)) (argument_at (first % 32) bytes >>= λ n. token_behind (first / 32) n.0 n.1) (Ok (t, after)) e) [
      | inl h ↦
          let is : bytes ≡ after = ap (λ (p : Token × List ℕ). p.1) (ok_is ((7, first % 32, []), bytes) (t, after) h.1) in
          omega (arith, ap length is)
      | inr h ↦
          let a = bind_ok (argument_at (first % 32) bytes) (λ n. token_behind (first / 32) n.0 n.1) (t, after) h.1 in
          omega (arith, argument_shorter (first % 32) bytes a.0.0 a.0.1 a.1, behind_shorter (first / 32) a.0.0 a.0.1 t after a.2)
    ]

-- ---- two rows side by side

pub alike_start : (a b : List ℕ) (ts us : List Token) → Stream a ts → Stream b us → Alike ts us a b
alike_start a b ts us is_a is_b = record { more = ts; others = us; is_more = is_a; is_others = is_b; same = λ e. e; back = λ e. e }

-- what is at the front of a row
first_of_row : (a : List ℕ) (ts : List Token) (t : Token) (rest : List ℕ) → Stream a ts → token_at a ≡ Ok (t, rest) → (more : List Token) × (ts ≡ t ∷ more) × Stream rest more
first_of_row a [] t rest none e = absurd (ok_or_err (t, rest) Truncated (sym e ∙ ap token_at none ∙ token_none))
first_of_row a (u ∷ us) t rest (after, read, more) e =
    let is : ◌≡◌ {A = Token × List ℕ} (u, after) (t, rest) = ok_is (u, after) (t, rest) (sym read ∙ e) in
    (us, ap (λ (p : Token × List ℕ). p.0 ∷ us) is, subst (λ (x : List ℕ). Stream x us) (ap (λ (p : Token × List ℕ). p.1) is) more)

heads_same : (t u : Token) (ts us : List Token) → (t ∷ ts) ≡ (u ∷ us) → t ≡ u
heads_same t u ts us e = cc

tails_same : (t u : Token) (ts us : List Token) → (t ∷ ts) ≡ (u ∷ us) → ts ≡ us
tails_same t u ts us e = cc

pub alike_step : (ts us : List Token) (a b : List ℕ) (t u : Token) (c d : List ℕ) → Alike ts us a b → token_at a ≡ Ok (t, c) → token_at b ≡ Ok (u, d) → t ≡ u → Alike ts us c d
alike_step ts us a b t u c d x read_a read_b is =
    let (more, is-more, stream_c) = first_of_row a x.more t c x.is_more read_a in
    let (others, is-others, stream_d) = first_of_row b x.others u d x.is_others read_b in
    record {
      more = more;
      others = others;
      is_more = stream_c;
      is_others = stream_d;
      same = λ e. tails_same t u more others (sym is-more ∙ x.same e ∙ is-others);
      back = λ e. x.back (is-more ∙ ap₂ (λ (y : Token) (ys : List Token). y ∷ ys) is e ∙ sym is-others);
    }

pub alike_differ : (ts us : List Token) (a b : List ℕ) (t u : Token) (c d : List ℕ) → Alike ts us a b → token_at a ≡ Ok (t, c) → token_at b ≡ Ok (u, d) → t ≢ u → ts ≢ us
alike_differ ts us a b t u c d x read_a read_b other e =
    let (more, is-more, stream_c) = first_of_row a x.more t c x.is_more read_a in
    let (others, is-others, stream_d) = first_of_row b x.others u d x.is_others read_b in
    other (heads_same t u more others (sym is-more ∙ x.same e ∙ is-others))

row_refused : (a : List ℕ) (ts : List Token) (e : ReadError) → a ≢ [] → Stream a ts → token_at a ≡ Err e → ⊥
row_refused a [] e some none refused = some none
row_refused a (u ∷ us) e some (after, read, more) refused = ok_or_err (u, after) e (sym read ∙ refused)

pub alike_refused : (ts us : List Token) (a b : List ℕ) (e : ReadError) → Alike ts us a b → a ≢ [] → token_at a ≡ Err e → ⊥
alike_refused ts us a b e x some refused = row_refused a x.more e some x.is_more refused

row_ends : (a : List ℕ) (ts : List Token) → a ≡ [] → Stream a ts → ts ≡ []
row_ends a [] none s = refl
row_ends a (u ∷ us) none (after, read, more) = absurd (ok_or_err (u, after) Truncated (sym read ∙ ap token_at none ∙ token_none))

row_goes_on : (a : List ℕ) (ts : List Token) → ts ≡ [] → Stream a ts → a ≡ []
row_goes_on a ts none s = subst (Stream a) none s

row_short : (a b : List ℕ) (ts us : List Token) (e : ReadError) → Stream a ts → Stream b us → a ≢ [] → token_at b ≡ Err e → ts ≢ us
row_short a b [] us e is_a is_b some refused same = some is_a
row_short a b (t ∷ ts) [] e is_a is_b some refused same = cc
row_short a b (t ∷ ts) (u ∷ us) e is_a (after, read, more) some refused same = ok_or_err (u, after) e (sym read ∙ refused)

-- the second row ends before the first
pub alike_short : (ts us : List Token) (a b : List ℕ) (e : ReadError) → Alike ts us a b → a ≢ [] → token_at b ≡ Err e → ts ≢ us
alike_short ts us a b e x some refused same = row_short a b x.more x.others e x.is_more x.is_others some refused (x.same same)

-- what the rows say of the items
pub rows_same : (a b : List ℕ) (d e : DataItem) → Spells a d → Spells b e → tokens d [] ≡ tokens e [] → true ≡ same d e
rows_same a b d e is_a is_b rows = sym (ap (same d) (sym (one_row a b d e is_a is_b rows)) ∙ same_itself d)

pub rows_differ : (d e : DataItem) → tokens d [] ≢ tokens e [] → false ≡ same d e
rows_differ d e other = sym (false_from_ne_true _ (λ h. other (ap (λ x. tokens x []) (same_means d e h))))

-- the first row has ended
pub rows_end : (a b : List ℕ) (d e : DataItem) (left right : List ℕ) → Spells a d → Spells b e → Alike (tokens d []) (tokens e []) left right → left ≡ [] → nat_eq (length right) 0 ≡ same d e
rows_end a b d e left [] is_a is_b x none =
    rows_same a b d e is_a is_b (x.back (row_ends left x.more none x.is_more ∙ sym (row_ends [] x.others refl x.is_others)))
rows_end a b d e left (y ∷ ys) is_a is_b x none =
    ne_eqb (length (y ∷ ys)) 0 (omega arith) ∙ rows_differ d e (λ same. cons_or_nil y ys (row_goes_on (y ∷ ys) x.others (sym (x.same same) ∙ row_ends left x.more none x.is_more) x.is_others))
  where
    cons_or_nil : (y : ℕ) (ys : List ℕ) → (y ∷ ys) ≡ [] → ⊥
    cons_or_nil y ys e = cc

-- ---- items skipped

spelled_some : (bytes : List ℕ) (d : DataItem) → Spells bytes d → 1 ≤ length bytes
spelled_some [] d s = let o = opened [] d s in absurd (ok_or_err (o.token, o.inner ++ []) Truncated (sym (o.reads []) ∙ token_none))
spelled_some (b ∷ bytes) d s = omega arith

items_bound : (front : List ℕ) (ds : Items) → SpellsItems front ds → item_count ds ≤ length front
items_bound front no_items s = omega arith
items_bound front (item d ds) (one, others, is_one, are_others, whole) =
    omega (arith, spelled_some one d is_one, items_bound others ds are_others, ap length whole, length-append one others)

pub pending_start : (bytes : List ℕ) (d : DataItem) (front rest : List ℕ) → Spells front d → bytes ≡ front ++ rest → Pending 1 bytes rest
pending_start bytes d front rest s whole = record { items = item d no_items; front = front; spelled = (front, [], s, refl, sym (append-nil front)); counted = refl; whole = whole }

pub pending_bound : (count : ℕ) (bytes rest : List ℕ) → Pending count bytes rest → count ≤ length bytes
pending_bound count bytes rest p = omega (arith, items_bound p.front p.items p.spelled, p.counted, ap length p.whole, length-append p.front rest)

pending_items : (items : Items) (count : ℕ) (bytes front rest : List ℕ) → SpellsItems front items → item_count items ≡ count → bytes ≡ front ++ rest → 0 < count
    → (d : DataItem) × (ds : Items) × (one others : List ℕ) × Spells one d × SpellsItems others ds × (suc (item_count ds) ≡ count) × (bytes ≡ one ++ (others ++ rest))
pending_items no_items count bytes front rest s counted whole some = absurd (omega arith)
pending_items (item d ds) count bytes front rest (one, others, is_one, are_others, parts) counted whole some =
    (d, ds, one, others, is_one, are_others, counted, whole ∙ ap (λ (x : List ℕ). x ++ rest) parts ∙ append_assoc one others rest)

pub pending_step : (count : ℕ) (bytes rest : List ℕ) (t : Token) (after : List ℕ) → Pending count bytes rest → 0 < count → token_at bytes ≡ Ok (t, after) → Pending (count - 1 + inside t.0 t.1) after rest
pending_step count bytes rest t after p some read =
    let (d, ds, one, others, is_one, are_others, counted, whole) = pending_items p.items count bytes p.front rest p.spelled p.counted p.whole some in
    let o = opened one d is_one in
    let is : ◌≡◌ {A = Token × List ℕ} (o.token, o.inner ++ (others ++ rest)) (t, after) = ok_is (o.token, o.inner ++ (others ++ rest)) (t, after) (sym (o.reads (others ++ rest)) ∙ ap token_at (sym whole) ∙ read) in
    let same : inside o.token.0 o.token.1 ≡ inside t.0 t.1 = ap (λ (x : Token × List ℕ). inside x.0.0 x.0.1) is in
    record {
      items = join o.kids ds;
      front = o.inner ++ others;
      spelled = join_spelled o.inner others o.kids ds o.spelled are_others;
      counted = omega (arith, join_count o.kids ds, o.counted, same, counted);
      whole = sym (ap (λ (x : Token × List ℕ). x.1) is) ∙ sym (append_assoc o.inner others rest);
    }

-- numbers and strings have nothing inside
inside_none : (major n : ℕ) → major < 4 → inside major n ≡ 0
unfolding inside
inside_none major n low = rw (ne_eqb major 4 (omega (arith, low)), ne_eqb major 5 (omega (arith, low)), ne_eqb major 6 (omega (arith, low))) refl

pub leaf_at : (bytes : List ℕ) (first : ℕ) (rest : List ℕ) (n : ℕ) (content after : List ℕ) → bytes ≡ first ∷ rest → first < 128 → token_at (first ∷ rest) ≡ Ok ((first / 32, n, content), after)
    → (t : Token) × (token_at bytes ≡ Ok (t, after)) × (inside t.0 t.1 ≡ 0)
leaf_at bytes first rest n content after is low read =
    ((first / 32, n, content), ap token_at is ∙ read, inside_none (first / 32) n (omega (arith, low)))

-- nothing is inside it
pub pending_leaf : (count : ℕ) (bytes rest : List ℕ) (t : Token) (after : List ℕ) → Pending count bytes rest → 0 < count → token_at bytes ≡ Ok (t, after) → inside t.0 t.1 ≡ 0 → Pending (count - 1) after rest
pending_leaf count bytes rest t after p some read none =
    let n : count - 1 + inside t.0 t.1 ≡ count - 1 = omega (arith, none) in
    subst (λ (x : ℕ). Pending x after rest) n (pending_step count bytes rest t after p some read)

-- The numbers are cut at the greatest of 64 bits, and there are never more items than bytes.
pub pending_many : (count kids next : ℕ) (bytes rest : List ℕ) (t : Token) (after : List ℕ) → Pending count bytes rest → 0 < count → token_at bytes ≡ Ok (t, after) → length after ≤ 18446744073709551615
    → kids ≡ min (inside t.0 t.1) 18446744073709551615 → next ≡ min (count - 1 + kids) 18446744073709551615 → Pending next after rest
pending_many count kids next bytes rest t after p some read short is_kids is_next =
    let step = pending_step count bytes rest t after p some read in
    let bound = pending_bound (count - 1 + inside t.0 t.1) after rest step in
    let n : count - 1 + inside t.0 t.1 ≡ next = omega (arith, bound, short, is_kids, is_next) in
    subst (λ (x : ℕ). Pending x after rest) n step

pub never_more : (count kids next : ℕ) (bytes rest : List ℕ) (t : Token) (after : List ℕ) → Pending count bytes rest → 0 < count → token_at bytes ≡ Ok (t, after)
    → kids ≡ min (inside t.0 t.1) 18446744073709551615 → next ≡ min (count - 1 + kids) 18446744073709551615 → next ≤ length after
never_more count kids next bytes rest t after p some read is_kids is_next =
    let bound = pending_bound (count - 1 + inside t.0 t.1) after rest (pending_step count bytes rest t after p some read) in
    omega (arith, bound, is_kids, is_next)

pub pending_refused : (count : ℕ) (bytes rest : List ℕ) (e : ReadError) → Pending count bytes rest → 0 < count → token_at bytes ≡ Err e → ⊥
pending_refused count bytes rest e p some refused =
    let (d, ds, one, others, is_one, are_others, counted, whole) = pending_items p.items count bytes p.front rest p.spelled p.counted p.whole some in
    let o = opened one d is_one in
    ok_or_err (o.token, o.inner ++ (others ++ rest)) e (sym (o.reads (others ++ rest)) ∙ ap token_at (sym whole) ∙ refused)

pending_none : (items : Items) (bytes front rest : List ℕ) → SpellsItems front items → item_count items ≡ 0 → bytes ≡ front ++ rest → bytes ≡ rest
pending_none no_items bytes front rest s counted whole = whole ∙ ap (λ (x : List ℕ). x ++ rest) s
pending_none (item d ds) bytes front rest s counted whole = absurd (omega arith)

pub pending_done : (count : ℕ) (bytes rest : List ℕ) → Pending count bytes rest → count ≡ 0 → bytes ≡ rest
pending_done count bytes rest p none = pending_none p.items bytes p.front rest p.spelled (p.counted ∙ none) p.whole

-- ---- pairs skipped

pub keys_start : (k : DataItem) (ps : Pairs) (front bytes rest : List ℕ) (count : ℕ) → SpellsPairs front ps → pair_count ps ≡ count → bytes ≡ front ++ rest → Keys k ps count bytes rest
keys_start k ps front bytes rest count s counted whole = record { more = ps; front = front; spelled = s; counted = counted; whole = whole; same = refl }

-- the first of the pairs that are left
pub record FirstPair (k : DataItem) (ps : Pairs) (count : ℕ) (bytes rest : List ℕ) : Type 0 where
  pub key : DataItem
  pub value : DataItem
  pub key_bytes : List ℕ
  pub value_bytes : List ℕ
  pub is_key : Spells key_bytes key
  pub is_value : Spells value_bytes value
  pub after : List ℕ
  pub whole : bytes ≡ key_bytes ++ (value_bytes ++ after)
  pub found : same k key ≡ true → has_key k ps ≡ true
  pub passed : same k key ≡ false → Keys k ps (count - 1) after rest

first_pair_of : (k : DataItem) (ps more : Pairs) (count : ℕ) (bytes front rest : List ℕ) → SpellsPairs front more → pair_count more ≡ count → bytes ≡ front ++ rest → has_key k more ≡ has_key k ps → 0 < count → FirstPair k ps count bytes rest
first_pair_of k ps no_pairs count bytes front rest s counted whole is some = absurd (omega arith)
first_pair_of k ps (pair l v more) count bytes front rest (key, value, others, is_key, is_value, are_others, parts) counted whole is some = record {
  key = l;
  value = v;
  key_bytes = key;
  value_bytes = value;
  is_key = is_key;
  is_value = is_value;
  after = others ++ rest;
  whole = whole ∙ ap (λ (x : List ℕ). x ++ rest) parts ∙ simp append_assoc;
  found = λ h. sym is ∙ or_left (same k l) (has_key k more) h;
  passed = λ h. record { more = more; front = others; spelled = are_others; counted = omega arith; whole = refl; same = sym (ap (λ b. b || has_key k more) h) ∙ is };
}

pub first_pair : (k : DataItem) (ps : Pairs) (count : ℕ) (bytes rest : List ℕ) → Keys k ps count bytes rest → 0 < count → FirstPair k ps count bytes rest
first_pair k ps count bytes rest x some = first_pair_of k ps x.more count bytes x.front rest x.spelled x.counted x.whole x.same some

keys_none : (k : DataItem) (ps more : Pairs) → pair_count more ≡ 0 → has_key k more ≡ has_key k ps → false ≡ has_key k ps
keys_none k ps no_pairs counted is = is
keys_none k ps (pair l v more) counted is = absurd (omega arith)

pub keys_done : (k : DataItem) (ps : Pairs) (count : ℕ) (bytes rest : List ℕ) → Keys k ps count bytes rest → count ≡ 0 → false ≡ has_key k ps
keys_done k ps count bytes rest x none = keys_none k ps x.more (x.counted ∙ none) x.same

-- the major type of an item
abbrev pub kind : DataItem → ℕ
kind (unsigned n) = 0
kind (negative n) = 1
kind (byte_string content) = 2
kind (text_string content) = 3
kind (array ds) = 4
kind (map ps) = 5
kind (tag n d) = 6
kind (bool b) = 7
kind null = 7

first_kind : (d : DataItem) (t : Token) (more : List Token) → tokens d [] ≡ t ∷ more → t.0 ≡ kind d
first_kind (unsigned n) t more e = sym (ap (λ (x : Token). x.0) (heads_same (0, n, []) t _ more e))
first_kind (negative n) t more e = sym (ap (λ (x : Token). x.0) (heads_same (1, n, []) t _ more e))
first_kind (byte_string content) t more e = sym (ap (λ (x : Token). x.0) (heads_same (2, length content, content) t _ more e))
first_kind (text_string content) t more e = sym (ap (λ (x : Token). x.0) (heads_same (3, length content, content) t _ more e))
first_kind (array ds) t more e = sym (ap (λ (x : Token). x.0) (heads_same (4, item_count ds, []) t _ more e))
first_kind (map ps) t more e = sym (ap (λ (x : Token). x.0) (heads_same (5, pair_count ps, []) t _ more e))
first_kind (tag n d) t more e = sym (ap (λ (x : Token). x.0) (heads_same (6, n, []) t _ more e))
first_kind (bool true) t more e = sym (ap (λ (x : Token). x.0) (heads_same (7, 21, []) t _ more e))
first_kind (bool false) t more e = sym (ap (λ (x : Token). x.0) (heads_same (7, 20, []) t _ more e))
first_kind null t more e = sym (ap (λ (x : Token). x.0) (heads_same (7, 22, []) t _ more e))

-- the token at the front has the item's major type
pub token_kind : (bytes : List ℕ) (d : DataItem) (t : Token) (after : List ℕ) → Spells bytes d → token_at bytes ≡ Ok (t, after) → t.0 ≡ kind d
token_kind bytes d t after s read =
    let (more, is, rest) = first_of_row bytes (tokens d []) t after (stream d bytes s) read in
    first_kind d t more is

-- and there is one
pub token_there : (bytes : List ℕ) (d : DataItem) (e : ReadError) → Spells bytes d → token_at bytes ≡ Err e → ⊥
token_there bytes d e s refused =
    let o = opened bytes d s in
    ok_or_err (o.token, o.inner ++ []) e (sym (o.reads []) ∙ ap token_at (append-nil bytes) ∙ refused)

-- what has the major type 5 is a map
pub map_of_kind : (d : DataItem) → kind d ≡ 5 → (ps : Pairs) × (d ≡ map ps)
map_of_kind (map ps) e = (ps, refl)
map_of_kind (unsigned n) e = absurd (omega arith)
map_of_kind (negative n) e = absurd (omega arith)
map_of_kind (byte_string content) e = absurd (omega arith)
map_of_kind (text_string content) e = absurd (omega arith)
map_of_kind (array ds) e = absurd (omega arith)
map_of_kind (tag n d) e = absurd (omega arith)
map_of_kind (bool b) e = absurd (omega arith)
map_of_kind null e = absurd (omega arith)

-- ---- the same of an item before others

kind_by : (front : List ℕ) (d : DataItem) (rest : List ℕ) (t : Token) (after : List ℕ) (s : Spells front d) → token_at (front ++ rest) ≡ Ok (t, after) → t.0 ≡ (opened front d s).token.0
kind_by front d rest t after s read =
    let o = opened front d s in
    sym (ap (λ (x : Token × List ℕ). x.0.0) (ok_is (o.token, o.inner ++ rest) (t, after) (sym (o.reads rest) ∙ read)))

pub kind_front : (front : List ℕ) (d : DataItem) (rest : List ℕ) (t : Token) (after : List ℕ) → Spells front d → token_at (front ++ rest) ≡ Ok (t, after) → t.0 ≡ kind d
unfolding opened leaf
kind_front front (unsigned n) rest t after s read = kind_by front (unsigned n) rest t after s read
kind_front front (negative n) rest t after s read = kind_by front (negative n) rest t after s read
kind_front front (byte_string x) rest t after s read = kind_by front (byte_string x) rest t after s read
kind_front front (text_string x) rest t after s read = kind_by front (text_string x) rest t after s read
kind_front front (array ds) rest t after s read = kind_by front (array ds) rest t after s read
kind_front front (map ps) rest t after s read = kind_by front (map ps) rest t after s read
kind_front front (tag n d) rest t after s read = kind_by front (tag n d) rest t after s read
kind_front front (bool true) rest t after s read = kind_by front (bool true) rest t after s read
kind_front front (bool false) rest t after s read = kind_by front (bool false) rest t after s read
kind_front front null rest t after s read = kind_by front null rest t after s read

pub array_front : (front : List ℕ) (ds : Items) (rest : List ℕ) (t : Token) (after : List ℕ) (s : Spells front (array ds)) → token_at (front ++ rest) ≡ Ok (t, after)
    → (4 ≡ t.0) × (item_count ds ≡ t.1) × (s.rest ++ rest ≡ after)
array_front front ds rest t after s read =
    let is : ◌≡◌ {A = Token × List ℕ} ((4, item_count ds, []), s.rest ++ rest) (t, after) =
    ok_is ((4, item_count ds, []), s.rest ++ rest) (t, after) (sym (follows_token 4 (item_count ds) (λ x. SpellsItems x ds) front rest (omega arith) (omega arith) (omega arith) s) ∙ read) in
    (ap (λ (x : Token × List ℕ). x.0.0) is, ap (λ (x : Token × List ℕ). x.0.1) is, ap (λ (x : Token × List ℕ). x.1) is)
