-- Where items end.
use Rattle.std.proofs.Common.{◌≡◌, ℕ, suc, ◌+◌, ◌-◌, ◌<◌, ◌≤◌, false, List, [], ◌++◌, Ok, Err, refl, sym, ap, ◌∙◌, append_assoc, arith}
use Rattle.std.proofs.lemmas.List.{append-nil}
use Rattle.osc_cbor.specs.{DataItem, Items, Pairs, no_pairs, pair, pair_count, nesting, most_nesting, has_key, Spells, SpellsPairs, Fails, Found, push_pair, items_from, pairs_from, item_at}
use Rattle.osc_cbor.specs.Inner.Ends.{Passed}
use Rattle.osc_cbor.specs.declared.error.ReadError.{ReadError}
use Rattle.osc_cbor.proofs.Steps.{AreBytes, err_is, ok_or_err}
use Rattle.osc_cbor.proofs.FoundLaws.{Takes, in_a_row}
use Rattle.osc_cbor.proofs.ReadSteps.{pairs_more}
use Rattle.osc_cbor.proofs.AgainLaws.{item_again}
use Rattle.osc_cbor.proofs.FailLaws.{item_fails}

pub all_left : (inner : List ℕ → Found) (before : Items) (count : ℕ) (bytes : List ℕ) → items_from inner before (count - 0) bytes ≡ items_from inner before count bytes
all_left inner before count bytes = let k : count - 0 ≡ count = omega arith in ap (λ (n : ℕ). items_from inner before n bytes) k

pub items_err : (e : ReadError) (inner : List ℕ → Found) (before : Items) (count i : ℕ) (bytes : List ℕ) → i < count → inner bytes ≡ Err e → items_from inner before (count - i) bytes ≡ Err e
unfolding items_from
items_err e inner before count i bytes lt h =
    let k : count - i ≡ suc (count - (i + 1)) = omega arith in
    rw (k, h) refl

pub key_err : (e : ReadError) (inner : List ℕ → Found) (before : Pairs) (count i : ℕ) (bytes : List ℕ) → i < count → inner bytes ≡ Err e → pairs_from inner before (count - i) bytes ≡ Err e
unfolding pairs_from
key_err e inner before count i bytes lt h =
    let k : count - i ≡ suc (count - (i + 1)) = omega arith in
    rw (k, h) refl

pub value_err : (e : ReadError) (inner : List ℕ → Found) (before : Pairs) (count i : ℕ) (bytes : List ℕ) (k : DataItem) (behind_key : List ℕ) → i < count
    → inner bytes ≡ Ok (k, behind_key) → has_key k before ≡ false → inner behind_key ≡ Err e → pairs_from inner before (count - i) bytes ≡ Err e
unfolding pairs_from
value_err e inner before count i bytes k behind_key lt h new g =
    let n : count - i ≡ suc (count - (i + 1)) = omega arith in
    rw (n, h, new, g) refl

-- ---- pairs that were passed

pub passed_start : (inner : List ℕ → Found) (count : ℕ) (bytes : List ℕ) → AreBytes bytes → Passed inner count 0 bytes bytes
passed_start inner count bytes fits =
    let k : count - 0 ≡ count = omega arith in
    record { before = no_pairs; front = []; spelled = refl; counted = refl; whole = refl; fits = fits; left = ap (λ (n : ℕ). pairs_from inner no_pairs n bytes) k }

pushed_spelled : (a key value : List ℕ) (ps : Pairs) (k v : DataItem) → SpellsPairs a ps → Spells key k → Spells value v → SpellsPairs (a ++ (key ++ value)) (push_pair ps k v)
pushed_spelled a key value no_pairs k v s is_key is_value =
    (key, value, [], is_key, is_value, refl, ap (λ (x : List ℕ). x ++ (key ++ value)) s ∙ sym (append-nil (key ++ value)))
pushed_spelled a key value (pair l w ps) k v (x, y, rest, is_x, is_y, others, whole) is_key is_value =
    (x, y, rest ++ (key ++ value), is_x, is_y, pushed_spelled rest key value ps k v others is_key is_value, ap (λ (z : List ℕ). z ++ (key ++ value)) whole ∙ simp append_assoc)

pushed_count : (ps : Pairs) (k v : DataItem) → pair_count (push_pair ps k v) ≡ pair_count ps + 1
pushed_count no_pairs k v = refl
pushed_count (pair l w ps) k v = let h = pushed_count ps k v in omega arith

pub passed_step : (inner : List ℕ → Found) (left : ℕ) → Takes inner left → (count index : ℕ) (bytes rest : List ℕ) → (x : Passed inner count index bytes rest) → index < count
    → (k : DataItem) (behind_key : List ℕ) → inner rest ≡ Ok (k, behind_key) → has_key k x.before ≡ false → (v : DataItem) (after : List ℕ) → inner behind_key ≡ Ok (v, after) → Passed inner count (index + 1) bytes after
passed_step inner left takes count index bytes rest x lt k behind_key read_key new v after read_value =
    let key = takes rest k behind_key x.fits read_key in
    let value = takes behind_key v after key.rest_fits read_value in
    record {
      before = push_pair x.before k v;
      front = x.front ++ (key.front ++ value.front);
      spelled = pushed_spelled x.front key.front value.front x.before k v x.spelled key.spelled value.spelled;
      counted = omega (arith, pushed_count x.before k v, x.counted);
      whole = in_a_row x.front key.front value.front bytes rest behind_key after x.whole key.whole value.whole ∙ ap (λ (z : List ℕ). z ++ after) (append_assoc x.front key.front value.front);
      fits = value.rest_fits;
      left = sym (pairs_more inner x.before count index rest k v behind_key after lt read_key new read_value) ∙ x.left;
    }

-- ---- the whole

-- what is spelled is not refused
pub never_refused : (bytes : List ℕ) (e : ReadError) → item_at 9 bytes ≡ Err e → (d : DataItem) (front rest : List ℕ) → Spells front d → nesting d ≤ most_nesting → bytes ≡ front ++ rest → ⊥
never_refused bytes e read d front rest spelled shallow whole =
    ok_or_err (d, rest) e (sym (ap (item_at 9) whole ∙ item_again 9 d front rest spelled (omega (arith, shallow))) ∙ read)

pub one_fault : (bytes : List ℕ) (e fault : ReadError) → item_at 9 bytes ≡ Err e → Fails 9 bytes fault → e ≡ fault
one_fault bytes e fault read fails = err_is {A = DataItem × List ℕ} e fault (sym read ∙ item_fails 9 bytes fault fails)
