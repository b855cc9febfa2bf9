-- What is read is spelled so.
use Rattle.std.proofs.Common.{◌≡◌, ℕ, zero, suc, ◌+◌, ◌*◌, ◌/◌, ◌%◌, ◌<◌, ◌≤◌, true, false, cond, ltb, eqb, List, [], ◌∷◌, ◌++◌, length, take, drop, Some, None, Ok, Err, refl, sym, ap, subst, ◌∙◌, append_assoc, arith, inl, inr}
use Rattle.std.specs.Str.{IsUtf8, is_utf8}
use Rattle.std.proofs.lemmas.Bool.{eqb-true, ltb-false}
use Rattle.std.proofs.lemmas.List.{append-nil, take-append-drop, length-take}
use Rattle.std.proofs.lemmas.Str.{IsUtf8-from_is_utf8}
use Rattle.osc_cbor.specs.{DataItem, unsigned, negative, byte_string, text_string, array, map, tag, bool, null, Items, no_items, item, Pairs, no_pairs, pair, item_count, pair_count, HasOwnKeys, nesting, items_nesting, pairs_nesting, IsHead, major_number, Spells, SpellsItems, SpellsPairs, has_key, ◌>>=◌, Found, argument_at, major_of, simple_at, string_at, text_at, items_from, pairs_from, push_item, push_pair, content_at, item_at}
use Rattle.osc_cbor.specs.declared.heads.Major.{Major}
use Rattle.osc_cbor.specs.declared.heads.Major.TheVariants.{Unsigned, Negative, Bytes, Text, Array, Map, Tag}
use Rattle.osc_cbor.specs.declared.error.ReadError.TheVariants.{Truncated, Unsupported, DuplicateKey, TooDeep}
use Rattle.osc_cbor.proofs.Steps.{AreBytes, AreBytes-rest, AreBytes-drop, bind_ok, ok_is, ok_or_err, chosen, some_or_none}
use Rattle.osc_cbor.proofs.HeadLaws.{argument_takes, major_takes, major_past}
use Rattle.osc_cbor.proofs.KeyLaws.{join_items, join_items-push, join_items-none, join_pairs, join_pairs-push, join_pairs-none, own_pushed, key_absent}
use Rattle.osc_cbor.proofs.ReadSteps.{item_none, item_deep, item_simple, item_behind}

-- an item was taken from the front
pub record Took (left : ℕ) (bytes : List ℕ) (d : DataItem) (rest : List ℕ) : Type 0 where
  pub front : List ℕ
  pub spelled : Spells front d
  pub shallow : nesting d < left
  pub whole : bytes ≡ front ++ rest
  pub rest_fits : AreBytes rest

abbrev pub Takes : (List ℕ → Found) → ℕ → Type 0
Takes inner left = (bytes : List ℕ) (d : DataItem) (rest : List ℕ) → AreBytes bytes → inner bytes ≡ Ok (d, rest) → Took left bytes d rest

-- ---- strings

pub record TookString (n : ℕ) (bytes content rest : List ℕ) : Type 0 where
  pub size : length content ≡ n
  pub whole : bytes ≡ content ++ rest
  pub rest_fits : AreBytes rest

pub string_takes : (n : ℕ) (bytes content rest : List ℕ) → AreBytes bytes → string_at n bytes ≡ Ok (content, rest) → TookString n bytes content rest
unfolding string_at
string_takes n bytes content rest fits e =
    elim (chosen (ltb (length bytes) n) (Err Truncated) (Ok (take n bytes, drop n bytes)) (Ok (content, rest)) e) [
      | inl bad ↦ absurd (ok_or_err (content, rest) Truncated (sym bad.1))
      | inr g ↦
          let long : n ≤ length bytes = ltb-false _ _ g.0 in
          let made = ok_is (take n bytes, drop n bytes) (content, rest) g.1 in
          let content-is : take n bytes ≡ content = ap (λ (p : List ℕ × List ℕ). p.0) made in
          let rest-is : drop n bytes ≡ rest = ap (λ (p : List ℕ × List ℕ). p.1) made in
          record {
            size = rw (← content-is) (omega (arith, length-take n bytes));
            whole = rw (← content-is, ← rest-is) (sym (take-append-drop n bytes));
            rest_fits = rw (← rest-is) (AreBytes-drop n bytes fits);
          }
    ]

pub text_takes : (n : ℕ) (bytes content rest : List ℕ) → AreBytes bytes → text_at n bytes ≡ Ok (content, rest) → IsUtf8 content × TookString n bytes content rest
unfolding text_at
text_takes n bytes content rest fits e =
    let a = bind_ok (string_at n bytes) (λ x. cond (is_utf8 x.0) (Ok x) (Err Unsupported)) (content, rest) e in
    elim (chosen (is_utf8 a.0.0) (Ok a.0) (Err Unsupported) (Ok (content, rest)) a.2) [
      | inl g ↦
          let is : a.0 ≡ (content, rest) = ok_is a.0 (content, rest) g.1 in
          let read : string_at n bytes ≡ Ok (content, rest) = a.1 ∙ ap (λ (x : List ℕ × List ℕ). Ok x) is in
          let text : is_utf8 content ≡ true = ap (λ (x : List ℕ × List ℕ). is_utf8 x.0) (sym is) ∙ g.0 in
          (IsUtf8-from_is_utf8 content text, string_takes n bytes content rest fits read)
      | inr bad ↦ absurd (ok_or_err (content, rest) Unsupported (sym bad.1))
    ]

-- ---- items

pub record TookItems (left n : ℕ) (bytes : List ℕ) (ds : Items) (rest : List ℕ) : Type 0 where
  pub front : List ℕ
  pub spelled : SpellsItems front ds
  pub size : item_count ds ≡ n
  pub shallow : items_nesting ds ≤ left
  pub whole : bytes ≡ front ++ rest
  pub rest_fits : AreBytes rest

-- an item, and the others after it
pub item_spelled : (front rest : List ℕ) (d : DataItem) (ds : Items) → Spells front d → SpellsItems rest ds → SpellsItems (front ++ rest) (item d ds)
item_spelled front rest d ds is_one are_others = (front, rest, is_one, are_others, refl)

pub items_take : (inner : List ℕ → Found) (left : ℕ) → Takes inner left → (n : ℕ) (before : Items) (bytes : List ℕ) (ds : Items) (rest : List ℕ) → AreBytes bytes
    → items_from inner before n bytes ≡ Ok (ds, rest) → (more : Items) × (join_items before more ≡ ds) × TookItems left n bytes more rest
unfolding items_from
items_take inner left takes zero before bytes ds rest fits e =
    let made = ok_is (before, bytes) (ds, rest) e in (
      no_items,
      join_items-none before ∙ ap (λ (p : Items × List ℕ). p.0) made,
      record { front = []; spelled = refl; size = refl; shallow = omega arith; whole = ap (λ (p : Items × List ℕ). p.1) made; rest_fits = subst AreBytes (ap (λ (p : Items × List ℕ). p.1) made) fits },
    )
items_take inner left takes (suc n) before bytes ds rest fits e =
    let a = bind_ok (inner bytes) (λ x. items_from inner (push_item before x.0) n x.1) (ds, rest) e in
    let one = takes bytes a.0.0 a.0.1 fits a.1 in
    let (more, joined, others) = items_take inner left takes n (push_item before a.0.0) a.0.1 ds rest one.rest_fits a.2 in (
      item a.0.0 more,
      sym (join_items-push before a.0.0 more) ∙ joined,
      record {
        front = one.front ++ others.front;
        spelled = item_spelled one.front others.front a.0.0 more one.spelled others.spelled;
        size = ap suc others.size;
        shallow = omega (arith, one.shallow, others.shallow);
        whole = one.whole ∙ ap (λ (x : List ℕ). one.front ++ x) others.whole ∙ sym (append_assoc one.front others.front rest);
        rest_fits = others.rest_fits;
      },
    )

-- ---- pairs

pub record TookPairs (left : ℕ) (before : Pairs) (n : ℕ) (bytes : List ℕ) (ps : Pairs) (rest : List ℕ) : Type 0 where
  pub front : List ℕ
  pub spelled : SpellsPairs front ps
  pub own : HasOwnKeys (join_pairs before ps)
  pub size : pair_count ps ≡ n
  pub shallow : pairs_nesting ps ≤ left
  pub whole : bytes ≡ front ++ rest
  pub rest_fits : AreBytes rest

-- a pair, and the others after it
pub pair_spelled : (key value rest : List ℕ) (k v : DataItem) (ps : Pairs) → Spells key k → Spells value v → SpellsPairs rest ps → SpellsPairs (key ++ value ++ rest) (pair k v ps)
pair_spelled key value rest k v ps is_key is_value are_others = (key, value, rest, is_key, is_value, are_others, refl)

-- three parts in a row
pub in_a_row : (a b c x y z w : List ℕ) → x ≡ a ++ y → y ≡ b ++ z → z ≡ c ++ w → x ≡ (a ++ b ++ c) ++ w
in_a_row a b c x y z w p q r = rw (p, q, r) (simp append_assoc)

pub pairs_take : (inner : List ℕ → Found) (left : ℕ) → Takes inner left → (n : ℕ) (before : Pairs) (bytes : List ℕ) (ps : Pairs) (rest : List ℕ) → AreBytes bytes → HasOwnKeys before
    → pairs_from inner before n bytes ≡ Ok (ps, rest) → (more : Pairs) × (join_pairs before more ≡ ps) × TookPairs left before n bytes more rest
unfolding pairs_from
pairs_take inner left takes zero before bytes ps rest fits own e =
    let made = ok_is (before, bytes) (ps, rest) e in (
      no_pairs,
      join_pairs-none before ∙ ap (λ (p : Pairs × List ℕ). p.0) made,
      record {
        front = [];
        spelled = refl;
        own = subst HasOwnKeys (sym (join_pairs-none before)) own;
        size = refl;
        shallow = omega arith;
        whole = ap (λ (p : Pairs × List ℕ). p.1) made;
        rest_fits = subst AreBytes (ap (λ (p : Pairs × List ℕ). p.1) made) fits;
      },
    )
pairs_take inner left takes (suc n) before bytes ps rest fits own e =
    let a = bind_ok (inner bytes) (λ k. cond (has_key k.0 before) (Err DuplicateKey) (inner k.1 >>= λ v. pairs_from inner (push_pair before k.0 v.0) n v.1)) (ps, rest) e in
    let key = takes bytes a.0.0 a.0.1 fits a.1 in
    elim (chosen (has_key a.0.0 before) (Err DuplicateKey) (inner a.0.1 >>= λ v. pairs_from inner (push_pair before a.0.0 v.0) n v.1) (Ok (ps, rest)) a.2) [
      | inl bad ↦ absurd (ok_or_err (ps, rest) DuplicateKey (sym bad.1))
      | inr g ↦
          let b = bind_ok (inner a.0.1) (λ v. pairs_from inner (push_pair before a.0.0 v.0) n v.1) (ps, rest) g.1 in
          let value = takes a.0.1 b.0.0 b.0.1 key.rest_fits b.1 in
          let grown = own_pushed before a.0.0 b.0.0 own (key_absent a.0.0 before g.0) in
          let (more, joined, others) = pairs_take inner left takes n (push_pair before a.0.0 b.0.0) b.0.1 ps rest value.rest_fits grown b.2 in (
            pair a.0.0 b.0.0 more,
            sym (join_pairs-push before a.0.0 b.0.0 more) ∙ joined,
            record {
              front = key.front ++ value.front ++ others.front;
              spelled = pair_spelled key.front value.front others.front a.0.0 b.0.0 more key.spelled value.spelled others.spelled;
              own = subst HasOwnKeys (join_pairs-push before a.0.0 b.0.0 more) others.own;
              size = ap suc others.size;
              shallow = omega (arith, key.shallow, value.shallow, others.shallow);
              whole = in_a_row key.front value.front others.front bytes a.0.1 b.0.1 rest key.whole value.whole others.whole;
              rest_fits = others.rest_fits;
            },
          )
    ]

-- ---- contents

-- what follows a head was taken
pub record TookContent (left : ℕ) (m : Major) (n : ℕ) (bytes : List ℕ) (d : DataItem) (rest : List ℕ) : Type 0 where
  pub after : List ℕ
  pub spelled : (head : List ℕ) → IsHead (major_number m) n head → Spells (head ++ after) d
  pub shallow : nesting d ≤ left
  pub whole : bytes ≡ after ++ rest
  pub rest_fits : AreBytes rest

number_takes_nothing : (left : ℕ) (m : Major) (n : ℕ) (bytes : List ℕ) (d e : DataItem) (rest : List ℕ) → AreBytes bytes → nesting d ≤ left → ((head : List ℕ) → IsHead (major_number m) n head → Spells head d)
    → ◌≡◌ {A = Found} (Ok (d, bytes)) (Ok (e, rest)) → TookContent left m n bytes e rest
number_takes_nothing left m n bytes d e rest fits shallow spelled h =
    let made = ok_is (d, bytes) (e, rest) h in
    let all : TookContent left m n bytes d bytes = record { after = []; spelled = λ head is. subst (λ (x : List ℕ). Spells x d) (sym (append-nil head)) (spelled head is); shallow = shallow; whole = refl; rest_fits = fits } in
    subst (λ (p : DataItem × List ℕ). TookContent left m n bytes p.0 p.1) made all

pub content_takes : (inner : List ℕ → Found) (left : ℕ) → Takes inner left → (m : Major) (n : ℕ) (bytes : List ℕ) (d : DataItem) (rest : List ℕ) → AreBytes bytes
    → content_at inner m n bytes ≡ Ok (d, rest) → TookContent left m n bytes d rest
unfolding content_at
content_takes inner left takes Unsigned n bytes d rest fits e = number_takes_nothing left Unsigned n bytes (unsigned n) d rest fits (omega arith) (λ head is. is) e
content_takes inner left takes Negative n bytes d rest fits e = number_takes_nothing left Negative n bytes (negative n) d rest fits (omega arith) (λ head is. is) e
content_takes inner left takes Bytes n bytes d rest fits e =
    let a = bind_ok (string_at n bytes) (λ x. Ok (byte_string x.0, x.1)) (d, rest) e in
    let t = string_takes n bytes a.0.0 a.0.1 fits a.1 in
    let all : TookContent left Bytes n bytes (byte_string a.0.0) a.0.1 = record {
      after = a.0.0;
      spelled = λ head is. record { front = head; rest = a.0.0; is_head = subst (λ (k : ℕ). IsHead 2 k head) (sym t.size) is; is_rest = refl; whole = refl };
      shallow = omega arith;
      whole = t.whole;
      rest_fits = t.rest_fits;
    } in
    subst (λ (p : DataItem × List ℕ). TookContent left Bytes n bytes p.0 p.1) (ok_is (byte_string a.0.0, a.0.1) (d, rest) a.2) all
content_takes inner left takes Text n bytes d rest fits e =
    let a = bind_ok (text_at n bytes) (λ x. Ok (text_string x.0, x.1)) (d, rest) e in
    let (text, t) = text_takes n bytes a.0.0 a.0.1 fits a.1 in
    let all : TookContent left Text n bytes (text_string a.0.0) a.0.1 = record {
      after = a.0.0;
      spelled = λ head is. (text, record { front = head; rest = a.0.0; is_head = subst (λ (k : ℕ). IsHead 3 k head) (sym t.size) is; is_rest = refl; whole = refl });
      shallow = omega arith;
      whole = t.whole;
      rest_fits = t.rest_fits;
    } in
    subst (λ (p : DataItem × List ℕ). TookContent left Text n bytes p.0 p.1) (ok_is (text_string a.0.0, a.0.1) (d, rest) a.2) all
content_takes inner left takes Array n bytes d rest fits e =
    let a = bind_ok (items_from inner no_items n bytes) (λ x. Ok (array x.0, x.1)) (d, rest) e in
    let (more, is-more, t) = items_take inner left takes n no_items bytes a.0.0 a.0.1 fits a.1 in
    let all : TookContent left Array n bytes (array more) a.0.1 = record {
      after = t.front;
      spelled = λ head is. record { front = head; rest = t.front; is_head = subst (λ (k : ℕ). IsHead 4 k head) (sym t.size) is; is_rest = t.spelled; whole = refl };
      shallow = t.shallow;
      whole = t.whole;
      rest_fits = t.rest_fits;
    } in
    subst (λ (p : DataItem × List ℕ). TookContent left Array n bytes p.0 p.1) (ap (λ (x : Items). (array x, a.0.1)) is-more ∙ ok_is (array a.0.0, a.0.1) (d, rest) a.2) all
content_takes inner left takes Map n bytes d rest fits e =
    let a = bind_ok (pairs_from inner no_pairs n bytes) (λ x. Ok (map x.0, x.1)) (d, rest) e in
    let (more, is-more, t) = pairs_take inner left takes n no_pairs bytes a.0.0 a.0.1 fits tt a.1 in
    let all : TookContent left Map n bytes (map more) a.0.1 = record {
      after = t.front;
      spelled = λ head is. (t.own, record { front = head; rest = t.front; is_head = subst (λ (k : ℕ). IsHead 5 k head) (sym t.size) is; is_rest = t.spelled; whole = refl });
      shallow = t.shallow;
      whole = t.whole;
      rest_fits = t.rest_fits;
    } in
    subst (λ (p : DataItem × List ℕ). TookContent left Map n bytes p.0 p.1) (ap (λ (x : Pairs). (map x, a.0.1)) is-more ∙ ok_is (map a.0.0, a.0.1) (d, rest) a.2) all
content_takes inner left takes Tag n bytes d rest fits e =
    let a = bind_ok (inner bytes) (λ x. Ok (tag n x.0, x.1)) (d, rest) e in
    let t = takes bytes a.0.0 a.0.1 fits a.1 in
    let all : TookContent left Tag n bytes (tag n a.0.0) a.0.1 = record {
      after = t.front;
      spelled = λ head is. record { front = head; rest = t.front; is_head = is; is_rest = t.spelled; whole = refl };
      shallow = t.shallow;
      whole = t.whole;
      rest_fits = t.rest_fits;
    } in
    subst (λ (p : DataItem × List ℕ). TookContent left Tag n bytes p.0 p.1) (ok_is (tag n a.0.0, a.0.1) (d, rest) a.2) all

-- ---- simple values

-- a simple value is its one byte
pub record TookSimple (bits : ℕ) (bytes : List ℕ) (d : DataItem) (rest : List ℕ) : Type 0 where
  pub spelled : Spells ((224 + bits) ∷ []) d
  pub shallow : nesting d ≡ 0
  pub whole : bytes ≡ rest

one_simple : (bits k : ℕ) (bytes : List ℕ) (d e : DataItem) (rest : List ℕ) → eqb bits k ≡ true → Spells ((224 + k) ∷ []) d → nesting d ≡ 0 → ◌≡◌ {A = Found} (Ok (d, bytes)) (Ok (e, rest)) → TookSimple bits bytes e rest
one_simple bits k bytes d e rest is spelled shallow h =
    let all : TookSimple bits bytes d bytes = record { spelled = subst (λ (x : ℕ). Spells ((224 + x) ∷ []) d) (sym (eqb-true bits k is)) spelled; shallow = shallow; whole = refl } in
    subst (λ (p : DataItem × List ℕ). TookSimple bits bytes p.0 p.1) (ok_is (d, bytes) (e, rest) h) all

pub simple_takes : (bits : ℕ) (bytes : List ℕ) (d : DataItem) (rest : List ℕ) → simple_at bits bytes ≡ Ok (d, rest) → TookSimple bits bytes d rest
unfolding simple_at
simple_takes bits bytes d rest e =
    let third : Found = cond (eqb bits 22) (Ok (null, bytes)) (Err Unsupported) in
    let second : Found = cond (eqb bits 21) (Ok (bool true, bytes)) third in
    elim (chosen (eqb bits 20) (Ok (bool false, bytes)) second (Ok (d, rest)) e) [
      | inl g ↦ one_simple bits 20 bytes (bool false) d rest g.0 refl refl g.1
      | inr g ↦ elim (chosen (eqb bits 21) (Ok (bool true, bytes)) third (Ok (d, rest)) g.1) [
        | inl h ↦ one_simple bits 21 bytes (bool true) d rest h.0 refl refl h.1
        | inr h ↦ elim (chosen (eqb bits 22) (Ok (null, bytes)) (Err Unsupported) (Ok (d, rest)) h.1) [
          | inl k ↦ one_simple bits 22 bytes null d rest k.0 refl refl k.1
          | inr k ↦ absurd (ok_or_err (d, rest) Unsupported (sym k.1))
        ]
      ]
    ]

-- ---- items

simple_item : (left first : ℕ) (bytes : List ℕ) (d : DataItem) (rest : List ℕ) → AreBytes (first ∷ bytes) → major_of (first / 32) ≡ None → item_at (suc left) (first ∷ bytes) ≡ Ok (d, rest) → Took (suc left) (first ∷ bytes) d rest
simple_item left first bytes d rest fits none e =
    let t = simple_takes (first % 32) bytes d rest (sym (item_simple (suc left) first bytes (omega arith) none) ∙ e) in
    let high : 7 ≤ first / 32 = major_past (first / 32) none in
    let is : 224 + first % 32 ≡ first = omega (arith, fits 0) in
    record {
      front = first ∷ [];
      spelled = subst (λ (x : ℕ). Spells (x ∷ []) d) is t.spelled;
      shallow = omega (arith, t.shallow);
      whole = ap (λ (x : List ℕ). first ∷ x) t.whole;
      rest_fits = subst AreBytes t.whole (AreBytes-rest first bytes fits);
    }

headed_item : (left first : ℕ) (bytes : List ℕ) (d : DataItem) (rest : List ℕ) (m : Major) → Takes (item_at left) left → AreBytes (first ∷ bytes) → major_of (first / 32) ≡ Some m → item_at (suc left) (first ∷ bytes) ≡ Ok (d, rest)
    → Took (suc left) (first ∷ bytes) d rest
headed_item left first bytes d rest m takes fits some e =
    let inner = item_at left in
    let a = bind_ok (argument_at (first % 32) bytes) (λ n. content_at inner m n.0 n.1) (d, rest) (sym (item_behind left first bytes m some) ∙ e) in
    let head = argument_takes (first % 32) bytes a.0.0 a.0.1 (AreBytes-rest first bytes fits) a.1 in
    let t = content_takes inner left takes m a.0.0 a.0.1 d rest head.rest_fits a.2 in
    let major : major_number m ≡ first / 32 = major_takes (first / 32) m some in
    let is : 32 * major_number m + first % 32 ≡ first = omega arith in
    let is_head : IsHead (major_number m) a.0.0 (first ∷ head.extension) = subst (λ (x : ℕ). IsHead (major_number m) a.0.0 (x ∷ head.extension)) is (head.is_head (major_number m)) in
    record {
      front = (first ∷ head.extension) ++ t.after;
      spelled = t.spelled (first ∷ head.extension) is_head;
      shallow = omega (arith, t.shallow);
      whole = ap (λ (x : List ℕ). first ∷ x) (head.whole ∙ ap (λ (x : List ℕ). head.extension ++ x) t.whole ∙ sym (append_assoc head.extension t.after rest));
      rest_fits = t.rest_fits;
    }

pub item_takes : (left : ℕ) → Takes (item_at left) left
item_takes left [] d rest fits e = absurd (ok_or_err (d, rest) Truncated (sym e ∙ item_none left))
item_takes zero (first ∷ bytes) d rest fits e = absurd (ok_or_err (d, rest) TooDeep (sym e ∙ item_deep first bytes))
item_takes (suc left) (first ∷ bytes) d rest fits e =
    elim (some_or_none (major_of (first / 32))) [
      | inl none ↦ simple_item left first bytes d rest fits none e
      | inr some ↦ headed_item left first bytes d rest some.0 (item_takes left) fits some.1 e
    ]
