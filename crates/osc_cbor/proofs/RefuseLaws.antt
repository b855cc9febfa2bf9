-- What is refused ends in that fault.
use Rattle.std.proofs.Common.{◌≡◌, ◌≢◌, ℕ, zero, suc, ◌+◌, ◌*◌, ◌/◌, ◌%◌, ◌<◌, ◌≤◌, true, false, cond, ltb, eqb, List, [], ◌∷◌, ◌++◌, length, take, drop, Some, None, Ok, Err, refl, sym, ap, subst, ◌∙◌, append_assoc, arith, inl, inr}
use Rattle.std.specs.Str.{is_utf8}
use Rattle.std.proofs.lemmas.Bool.{ltb-true, eqb-false, false≢true}
use Rattle.std.proofs.lemmas.Str.{is_utf8-from_IsUtf8}
use Rattle.osc_cbor.specs.{DataItem, unsigned, negative, byte_string, text_string, array, map, tag, bool, null, Items, no_items, item, Pairs, no_pairs, pair, pair_count, HasOwnKeys, pairs_nesting, IsHead, major_number, SpellsPairs, IsExtended, IsUnsupported, reserved, no_simple_value, HeadFails, unsupported, cut_short, StringFails, bytes_end, text_ends, not_utf8, ItemsFail, PairFails, key_fails, key_again, value_fails, PairsFail, ItemFails, in_head, in_string, in_array, in_map, in_tag, TooDeepFails, too_deep, Fails, has_key, ◌>>=◌, Found, argument_at, major_of, simple_at, string_at, text_at, items_from, pairs_from, push_item, push_pair, content_at, item_at}
use Rattle.osc_cbor.specs.Faults as faults
use Rattle.osc_cbor.specs.declared.heads.Major.{Major}
use Rattle.osc_cbor.specs.declared.heads.Major.TheVariants.{Unsigned, Negative, Bytes, Text, Array, Map, Tag}
use Rattle.osc_cbor.specs.declared.error.ReadError.{ReadError}
use Rattle.osc_cbor.specs.declared.error.ReadError.TheVariants.{Truncated, Unsupported, DuplicateKey, TooDeep}
use Rattle.osc_cbor.proofs.Steps.{AreBytes, AreBytes-rest, bind_err, err_is, ok_or_err, chosen, some_or_none}
use Rattle.osc_cbor.proofs.HeadLaws.{argument_takes, argument_refuses, is_reserved, is_short, major_takes, major_past, major_below}
use Rattle.osc_cbor.proofs.KeyLaws.{join_pairs, join_pairs-push, join_pairs-none, own_pushed, key_means, key_absent}
use Rattle.osc_cbor.proofs.FoundLaws.{Takes, item_spelled, pair_spelled, in_a_row, item_takes, string_takes}
use Rattle.osc_cbor.proofs.ReadSteps.{item_none, item_deep, item_simple, item_behind}

-- what `inner` refuses ends in that fault
abbrev pub Refused : (List ℕ → Found) → (List ℕ → ReadError → Type 0) → Type 0
Refused inner Inner = (bytes : List ℕ) (e : ReadError) → AreBytes bytes → inner bytes ≡ Err e → Inner bytes e

-- ---- strings

pub string_refuses : (n : ℕ) (bytes : List ℕ) (e : ReadError) → string_at n bytes ≡ Err e → (length bytes < n) × (e ≡ Truncated)
unfolding string_at
string_refuses n bytes e h =
    elim (chosen (ltb (length bytes) n) (Err Truncated) (Ok (take n bytes, drop n bytes)) (Err e) h) [
      | inl bad ↦ (ltb-true _ _ bad.0, sym (err_is {A = List ℕ × List ℕ} Truncated e bad.1))
      | inr g ↦ absurd (ok_or_err (take n bytes, drop n bytes) e g.1)
    ]

-- a text is cut short, or no text
pub text_refuses : (n : ℕ) (head bytes : List ℕ) (e : ReadError) → AreBytes bytes → IsHead 3 n head → text_at n bytes ≡ Err e → StringFails (head ++ bytes) e
unfolding text_at
text_refuses n head bytes e fits is h =
    elim (bind_err (string_at n bytes) (λ x. cond (is_utf8 x.0) (Ok x) (Err Unsupported)) e h) [
      | inl short ↦ let s = string_refuses n bytes e short in text_ends n (record { front = head; rest = bytes; is_head = is; is_rest = s.0; whole = refl }) s.1
      | inr found ↦
          let x = found.0 in
          let t = string_takes n bytes x.0 x.1 fits found.1 in
          elim (chosen (is_utf8 x.0) (Ok x) (Err Unsupported) (Err e) found.2) [
            | inl g ↦ absurd (ok_or_err x e g.1)
            | inr g ↦ not_utf8 x.0 x.1 (record { front = head; rest = bytes; is_head = subst (λ (k : ℕ). IsHead 3 k head) (sym t.size) is; is_rest = t.whole; whole = refl })
                (λ text. false≢true (sym g.0 ∙ is_utf8-from_IsUtf8 x.0 text)) (sym (err_is {A = List ℕ × List ℕ} Unsupported e g.1))
          ]
    ]

-- ---- items

pub items_refuse : (inner : List ℕ → Found) (left : ℕ) (Inner : List ℕ → ReadError → Type 0) → Takes inner left → Refused inner Inner → (n : ℕ) (before : Items) (bytes : List ℕ) (e : ReadError) → AreBytes bytes
    → items_from inner before n bytes ≡ Err e → ItemsFail left Inner n bytes e
unfolding items_from
items_refuse inner left Inner takes refused zero before bytes e fits h = absurd (ok_or_err (before, bytes) e h)
items_refuse inner left Inner takes refused (suc n) before bytes e fits h =
    elim (bind_err (inner bytes) (λ x. items_from inner (push_item before x.0) n x.1) e h) [
      | inl here ↦ record { before = no_items; front = []; rest = bytes; spelled = refl; shallow = omega arith; fewer = omega arith; fails = refused bytes e fits here; whole = refl }
      | inr found ↦
          let x = found.0 in
          let one = takes bytes x.0 x.1 fits found.1 in
          let later = items_refuse inner left Inner takes refused n (push_item before x.0) x.1 e one.rest_fits found.2 in
          record {
            before = item x.0 later.before;
            front = one.front ++ later.front;
            rest = later.rest;
            spelled = item_spelled one.front later.front x.0 later.before one.spelled later.spelled;
            shallow = omega (arith, one.shallow, later.shallow);
            fewer = omega (arith, later.fewer);
            fails = later.fails;
            whole = one.whole ∙ ap (λ (y : List ℕ). one.front ++ y) later.whole ∙ sym (append_assoc one.front later.front later.rest);
          }
    ]

-- ---- pairs

-- pairs that follow others, of which one can't be read
record FailsBehind (left : ℕ) (Inner : List ℕ → ReadError → Type 0) (earlier : Pairs) (n : ℕ) (bytes : List ℕ) (e : ReadError) : Type 0 where
  pub more : Pairs
  pub front : List ℕ
  pub rest : List ℕ
  pub spelled : SpellsPairs front more
  pub own_keys : HasOwnKeys (join_pairs earlier more)
  pub shallow : pairs_nesting more ≤ left
  pub fewer : pair_count more < n
  pub fails : PairFails left Inner (join_pairs earlier more) rest e
  pub whole : bytes ≡ front ++ rest

here_fails : (left : ℕ) (Inner : List ℕ → ReadError → Type 0) (earlier : Pairs) (n : ℕ) (bytes : List ℕ) (e : ReadError) → HasOwnKeys earlier → PairFails left Inner earlier bytes e → FailsBehind left Inner earlier (suc n) bytes e
here_fails left Inner earlier n bytes e own fails = record {
  more = no_pairs;
  front = [];
  rest = bytes;
  spelled = refl;
  own_keys = subst HasOwnKeys (sym (join_pairs-none earlier)) own;
  shallow = omega arith;
  fewer = omega arith;
  fails = subst (λ (ps : Pairs). PairFails left Inner ps bytes e) (sym (join_pairs-none earlier)) fails;
  whole = refl;
}

pairs_refuse : (inner : List ℕ → Found) (left : ℕ) (Inner : List ℕ → ReadError → Type 0) → Takes inner left → Refused inner Inner → (n : ℕ) (earlier : Pairs) (bytes : List ℕ) (e : ReadError) → AreBytes bytes → HasOwnKeys earlier
    → pairs_from inner earlier n bytes ≡ Err e → FailsBehind left Inner earlier n bytes e
unfolding pairs_from
pairs_refuse inner left Inner takes refused zero earlier bytes e fits own h = absurd (ok_or_err (earlier, bytes) e h)
pairs_refuse inner left Inner takes refused (suc n) earlier bytes e fits own h =
    elim (bind_err (inner bytes) (λ k. cond (has_key k.0 earlier) (Err DuplicateKey) (inner k.1 >>= λ v. pairs_from inner (push_pair earlier k.0 v.0) n v.1)) e h) [
      | inl no_key ↦ here_fails left Inner earlier n bytes e own (key_fails (refused bytes e fits no_key))
      | inr found ↦
          let k = found.0 in
          let key = takes bytes k.0 k.1 fits found.1 in
          elim (chosen (has_key k.0 earlier) (Err DuplicateKey) (inner k.1 >>= λ v. pairs_from inner (push_pair earlier k.0 v.0) n v.1) (Err e) found.2) [
            | inl again ↦ here_fails left Inner earlier n bytes e own (key_again k.0 key.front k.1 key.spelled key.shallow key.whole (key_means k.0 earlier again.0) (sym (err_is {A = Pairs × List ℕ} DuplicateKey e again.1)))
            | inr new ↦
                let absent = key_absent k.0 earlier new.0 in
                elim (bind_err (inner k.1) (λ v. pairs_from inner (push_pair earlier k.0 v.0) n v.1) e new.1) [
                  | inl no_value ↦ here_fails left Inner earlier n bytes e own (value_fails k.0 key.front k.1 key.spelled key.shallow key.whole absent (refused k.1 e key.rest_fits no_value))
                  | inr read ↦
                      let v = read.0 in
                      let value = takes k.1 v.0 v.1 key.rest_fits read.1 in
                      let later = pairs_refuse inner left Inner takes refused n (push_pair earlier k.0 v.0) v.1 e value.rest_fits (own_pushed earlier k.0 v.0 own absent) read.2 in
                      let joined = join_pairs-push earlier k.0 v.0 later.more in
                      record {
                        more = pair k.0 v.0 later.more;
                        front = key.front ++ value.front ++ later.front;
                        rest = later.rest;
                        spelled = pair_spelled key.front value.front later.front k.0 v.0 later.more key.spelled value.spelled later.spelled;
                        own_keys = subst HasOwnKeys joined later.own_keys;
                        shallow = omega (arith, key.shallow, value.shallow, later.shallow);
                        fewer = omega (arith, later.fewer);
                        fails = subst (λ (ps : Pairs). PairFails left Inner ps later.rest e) joined later.fails;
                        whole = in_a_row key.front value.front later.front bytes k.1 v.1 later.rest key.whole value.whole later.whole;
                      }
                ]
          ]
    ]

all_pairs_fail : (left : ℕ) (Inner : List ℕ → ReadError → Type 0) (n : ℕ) (bytes : List ℕ) (e : ReadError) → FailsBehind left Inner no_pairs n bytes e → PairsFail left Inner n bytes e
all_pairs_fail left Inner n bytes e f = record { before = f.more; front = f.front; rest = f.rest; spelled = f.spelled; own_keys = f.own_keys; shallow = f.shallow; fewer = f.fewer; fails = f.fails; whole = f.whole }

-- ---- contents

pub content_refuses : (inner : List ℕ → Found) (left : ℕ) (Inner : List ℕ → ReadError → Type 0) → Takes inner left → Refused inner Inner → (m : Major) (n : ℕ) (head bytes : List ℕ) (e : ReadError) → AreBytes bytes
    → IsHead (major_number m) n head → content_at inner m n bytes ≡ Err e → ItemFails left Inner (head ++ bytes) e
unfolding content_at
content_refuses inner left Inner takes refused Unsigned n head bytes e fits is h = absurd (ok_or_err (unsigned n, bytes) e h)
content_refuses inner left Inner takes refused Negative n head bytes e fits is h = absurd (ok_or_err (negative n, bytes) e h)
content_refuses inner left Inner takes refused Bytes n head bytes e fits is h =
    elim (bind_err (string_at n bytes) (λ x. Ok (byte_string x.0, x.1)) e h) [
      | inl short ↦ let s = string_refuses n bytes e short in in_string (bytes_end n (record { front = head; rest = bytes; is_head = is; is_rest = s.0; whole = refl }) s.1)
      | inr x ↦ absurd (ok_or_err (byte_string x.0.0, x.0.1) e x.2)
    ]
content_refuses inner left Inner takes refused Text n head bytes e fits is h =
    elim (bind_err (text_at n bytes) (λ x. Ok (text_string x.0, x.1)) e h) [
      | inl bad ↦ in_string (text_refuses n head bytes e fits is bad)
      | inr x ↦ absurd (ok_or_err (text_string x.0.0, x.0.1) e x.2)
    ]
content_refuses inner left Inner takes refused Array n head bytes e fits is h =
    elim (bind_err (items_from inner no_items n bytes) (λ x. Ok (array x.0, x.1)) e h) [
      | inl bad ↦ in_array n (record { front = head; rest = bytes; is_head = is; is_rest = items_refuse inner left Inner takes refused n no_items bytes e fits bad; whole = refl })
      | inr x ↦ absurd (ok_or_err (array x.0.0, x.0.1) e x.2)
    ]
content_refuses inner left Inner takes refused Map n head bytes e fits is h =
    elim (bind_err (pairs_from inner no_pairs n bytes) (λ x. Ok (map x.0, x.1)) e h) [
      | inl bad ↦ in_map n (record { front = head; rest = bytes; is_head = is; is_rest = all_pairs_fail left Inner n bytes e (pairs_refuse inner left Inner takes refused n no_pairs bytes e fits tt bad); whole = refl })
      | inr x ↦ absurd (ok_or_err (map x.0.0, x.0.1) e x.2)
    ]
content_refuses inner left Inner takes refused Tag n head bytes e fits is h =
    elim (bind_err (inner bytes) (λ x. Ok (tag n x.0, x.1)) e h) [
      | inl bad ↦ in_tag n (record { front = head; rest = bytes; is_head = is; is_rest = refused bytes e fits bad; whole = refl })
      | inr x ↦ absurd (ok_or_err (tag n x.0.0, x.0.1) e x.2)
    ]

-- ---- simple values

simple_refuses : (bits : ℕ) (bytes : List ℕ) (e : ReadError) → simple_at bits bytes ≡ Err e → (bits ≢ 20) × (bits ≢ 21) × (bits ≢ 22) × (e ≡ Unsupported)
unfolding simple_at
simple_refuses bits bytes e h =
    let third : Found = cond (eqb bits 22) (Ok (null, bytes)) (Err Unsupported) in
    let second : Found = cond (eqb bits 21) (Ok (bool true, bytes)) third in
    elim (chosen (eqb bits 20) (Ok (bool false, bytes)) second (Err e) h) [
      | inl g ↦ absurd (ok_or_err (bool false, bytes) e g.1)
      | inr g ↦ elim (chosen (eqb bits 21) (Ok (bool true, bytes)) third (Err e) g.1) [
        | inl i ↦ absurd (ok_or_err (bool true, bytes) e i.1)
        | inr i ↦ elim (chosen (eqb bits 22) (Ok (null, bytes)) (Err Unsupported) (Err e) i.1) [
          | inl k ↦ absurd (ok_or_err (null, bytes) e k.1)
          | inr k ↦ (eqb-false bits 20 g.0, eqb-false bits 21 i.0, eqb-false bits 22 k.0, sym (err_is {A = DataItem × List ℕ} Unsupported e k.1))
        ]
      ]
    ]

-- ---- items

simple_item : (left first : ℕ) (bytes : List ℕ) (e : ReadError) (Inner : List ℕ → ReadError → Type 0) → AreBytes (first ∷ bytes) → major_of (first / 32) ≡ None → item_at (suc left) (first ∷ bytes) ≡ Err e → ItemFails left Inner (first ∷ bytes) e
simple_item left first bytes e Inner fits none h =
    let (not_false, not_true, not_null, is) = simple_refuses (first % 32) bytes e (sym (item_simple (suc left) first bytes (omega arith) none) ∙ h) in
    let high : 7 ≤ first / 32 = major_past (first / 32) none in
    let whole : first ≡ 32 * 7 + first % 32 = omega (arith, fits 0) in
    in_head (unsupported 7 (first % 32) bytes (ap (λ (x : ℕ). x ∷ bytes) whole) (omega arith) (no_simple_value refl not_false not_true not_null) is)

headed_item : (left first : ℕ) (bytes : List ℕ) (e : ReadError) (m : Major) (Inner : List ℕ → ReadError → Type 0) → Takes (item_at left) left → Refused (item_at left) Inner → AreBytes (first ∷ bytes) → major_of (first / 32) ≡ Some m
    → item_at (suc left) (first ∷ bytes) ≡ Err e → ItemFails left Inner (first ∷ bytes) e
headed_item left first bytes e m Inner takes refused fits some h =
    let inner = item_at left in
    let behind = AreBytes-rest first bytes fits in
    let major : major_number m ≡ first / 32 = major_takes (first / 32) m some in
    let whole : first ≡ 32 * major_number m + first % 32 = omega arith in
    elim (bind_err (argument_at (first % 32) bytes) (λ n. content_at inner m n.0 n.1) e (sym (item_behind left first bytes m some) ∙ h)) [
      | inl bad ↦ elim (argument_refuses (first % 32) bytes e bad) [
        | is_reserved le is ↦ in_head (unsupported (major_number m) (first % 32) bytes (ap (λ (x : ℕ). x ∷ bytes) whole) (omega arith) (reserved le) is)
        | is_short size extended short is ↦ in_head (cut_short (major_number m) (first % 32) size bytes (ap (λ (x : ℕ). x ∷ bytes) whole) (major_below m) extended short is)
      ]
      | inr found ↦
          let n = found.0 in
          let head = argument_takes (first % 32) bytes n.0 n.1 behind found.1 in
          let is_head : IsHead (major_number m) n.0 (first ∷ head.extension) = subst (λ (x : ℕ). IsHead (major_number m) n.0 (x ∷ head.extension)) (sym whole) (head.is_head (major_number m)) in
          let fails = content_refuses inner left Inner takes refused m n.0 (first ∷ head.extension) n.1 e head.rest_fits is_head found.2 in
          subst (λ (x : List ℕ). ItemFails left Inner (first ∷ x) e) (sym head.whole) fails
    ]

pub item_refuses : (left : ℕ) → Refused (item_at left) (Fails left)
unfolding Fails
item_refuses zero [] e fits h = faults.TooDeepFails.no_byte refl (sym (err_is {A = DataItem × List ℕ} Truncated e (sym (item_none zero) ∙ h)))
item_refuses zero (first ∷ bytes) e fits h = too_deep (λ p. cc) (sym (err_is {A = DataItem × List ℕ} TooDeep e (sym (item_deep first bytes) ∙ h)))
item_refuses (suc left) [] e fits h = in_head (faults.HeadFails.no_byte refl (sym (err_is {A = DataItem × List ℕ} Truncated e (sym (item_none (suc left)) ∙ h))))
item_refuses (suc left) (first ∷ bytes) e fits h =
    elim (some_or_none (major_of (first / 32))) [
      | inl none ↦ simple_item left first bytes e (Fails left) fits none h
      | inr some ↦ headed_item left first bytes e some.0 (Fails left) (item_takes left) (item_refuses left) fits some.1 h
    ]
