-- What is read is read whatever the keys of maps.
use Rattle.std.proofs.Common.{◌≡◌, ℕ, zero, suc, ◌/◌, ◌%◌, cond, List, [], ◌∷◌, Option, Some, None, Ok, Err, ◌∙◌, sym, inl, inr}
use Rattle.osc_cbor.specs.{DataItem, array, map, tag, Items, no_items, Pairs, no_pairs, has_key, ◌>>=◌, Found, argument_at, major_of, items_from, pairs_from, push_item, push_pair, content_at, behind_first, item_at, any_pairs_from, any_content_at, any_behind_first, any_item_at}
use Rattle.osc_cbor.specs.declared.heads.Major.{Major}
use Rattle.osc_cbor.specs.declared.heads.Major.TheVariants.{Unsigned, Negative, Bytes, Text, Array, Map, Tag}
use Rattle.osc_cbor.specs.declared.error.ReadError.TheVariants.{DuplicateKey}
use Rattle.osc_cbor.proofs.Steps.{bind_ok, chosen, ok_or_err}

-- what the first reads, the second reads too
abbrev pub ReadsToo : (List ℕ → Found) → (List ℕ → Found) → Type 0
ReadsToo inner other = (bytes : List ℕ) (x : DataItem × List ℕ) → inner bytes ≡ Ok x → other bytes ≡ Ok x

items_too : (inner other : List ℕ → Found) → ReadsToo inner other → (n : ℕ) (before : Items) (bytes : List ℕ) (x : Items × List ℕ) → items_from inner before n bytes ≡ Ok x → items_from other before n bytes ≡ Ok x
unfolding items_from
items_too inner other too zero before bytes x e = e
items_too inner other too (suc n) before bytes x e =
    let a = bind_ok (inner bytes) (λ d. items_from inner (push_item before d.0) n d.1) x e in
    rw (too bytes a.0 a.1) (items_too inner other too n (push_item before a.0.0) a.0.1 x a.2)

pairs_too : (inner other : List ℕ → Found) → ReadsToo inner other → (n : ℕ) (before : Pairs) (bytes : List ℕ) (x : Pairs × List ℕ) → pairs_from inner before n bytes ≡ Ok x → any_pairs_from other before n bytes ≡ Ok x
unfolding pairs_from any_pairs_from
pairs_too inner other too zero before bytes x e = e
pairs_too inner other too (suc n) before bytes x e =
    let a = bind_ok (inner bytes) (λ k. cond (has_key k.0 before) (Err DuplicateKey) (inner k.1 >>= λ v. pairs_from inner (push_pair before k.0 v.0) n v.1)) x e in
    elim (chosen (has_key a.0.0 before) (Err DuplicateKey) (inner a.0.1 >>= λ v. pairs_from inner (push_pair before a.0.0 v.0) n v.1) (Ok x) a.2) [
      | inl bad ↦ absurd (ok_or_err x DuplicateKey (sym bad.1))
      | inr g ↦
          let b = bind_ok (inner a.0.1) (λ v. pairs_from inner (push_pair before a.0.0 v.0) n v.1) x g.1 in
          rw (too bytes a.0 a.1, too a.0.1 b.0 b.1) (pairs_too inner other too n (push_pair before a.0.0 b.0.0) b.0.1 x b.2)
    ]

content_too : (inner other : List ℕ → Found) → ReadsToo inner other → (m : Major) (n : ℕ) (bytes : List ℕ) (x : DataItem × List ℕ) → content_at inner m n bytes ≡ Ok x → any_content_at other m n bytes ≡ Ok x
unfolding content_at any_content_at
content_too inner other too Unsigned n bytes x e = e
content_too inner other too Negative n bytes x e = e
content_too inner other too Bytes n bytes x e = e
content_too inner other too Text n bytes x e = e
content_too inner other too Array n bytes x e =
    let a = bind_ok (items_from inner no_items n bytes) (λ y. Ok (array y.0, y.1)) x e in
    rw (items_too inner other too n no_items bytes a.0 a.1) a.2
content_too inner other too Map n bytes x e =
    let a = bind_ok (pairs_from inner no_pairs n bytes) (λ y. Ok (map y.0, y.1)) x e in
    rw (pairs_too inner other too n no_pairs bytes a.0 a.1) a.2
content_too inner other too Tag n bytes x e =
    let a = bind_ok (inner bytes) (λ y. Ok (tag n y.0, y.1)) x e in
    rw (too bytes a.0 a.1) a.2

behind_too : (inner other : List ℕ → Found) → ReadsToo inner other → (major : Option Major) (bits : ℕ) (bytes : List ℕ) (x : DataItem × List ℕ) → behind_first inner major bits bytes ≡ Ok x → any_behind_first other major bits bytes ≡ Ok x
behind_too inner other too None bits bytes x e = e
behind_too inner other too (Some m) bits bytes x e =
    let a = bind_ok (argument_at bits bytes) (λ n. content_at inner m n.0 n.1) x e in
    rw a.1 (content_too inner other too m a.0.0 a.0.1 x a.2)

pub item_too : (left : ℕ) → ReadsToo (item_at left) (any_item_at left)
unfolding item_at any_item_at
item_too left [] x e = e
item_too zero (first ∷ bytes) x e = e
item_too (suc left) (first ∷ bytes) x e = behind_too (item_at left) (any_item_at left) (item_too left) (major_of (first / 32)) (first % 32) bytes x e

-- where an item is read, both read the same
pub same_reading : (left : ℕ) (bytes : List ℕ) (x : DataItem × List ℕ) → item_at left bytes ≡ Ok x → any_item_at left bytes ≡ item_at left bytes
same_reading left bytes x e = item_too left bytes x e ∙ sym e
