use Rattle.std.proofs.Common.{◌≡◌, ◌-◌, [], ◌∷◌, ◌++◌, ℕ, suc, List, drop, length, Bor, refl, sym, ap, ap₂, subst, ◌∙◌, arith}
use Rattle.std.proofs.lemmas.Result.{err_from_is_err_and}
use Rattle.osc_cbor.specs.{unsigned, negative, head, spelling, Found, content_at, item_at}
use Rattle.osc_cbor.specs.Inner.Notes.{Passes, AreApart, Repeats, pieces}
use Rattle.osc_cbor.specs.declared.keys.Key.{Key}
use Rattle.osc_cbor.proofs.FoundLaws.{item_takes}
use Rattle.osc_cbor.proofs.PassLaws.{bytes_behind, text_behind, items_behind, pairs_behind, number_behind, items_start, item_ends, item_passed, items_passed, pairs_start, key_ends, room_ends, key_passed, value_ends, pair_passed, all_passed, they_are_apart, one_repeats}
use Rattle.osc_cbor.proofs.NumberLaws.{number_passed}
use Rattle.osc_cbor.proofs.pass.+pass.Goals as goal

-- ---- contents

pub pass_content-returns-in-Unsigned-clause-passed : goal.pass_content-returns-in-Unsigned-clause-passed
unfolding content_at
pass_content-returns-in-Unsigned-clause-passed t m c = rw c.in-Unsigned.is (number_behind (head 0 c.args.argument) (λ x. x.now) c.args.spelled.now.items c.args.bytes (unsigned c.args.argument) _ refl refl)

pub pass_content-returns-in-Negative-clause-passed : goal.pass_content-returns-in-Negative-clause-passed
unfolding content_at
pass_content-returns-in-Negative-clause-passed t m c = rw c.in-Negative.is (number_behind (head 1 c.args.argument) (λ x. x.now) c.args.spelled.now.items c.args.bytes (negative c.args.argument) _ refl refl)

pub pass_content-returns-in-Bytes-clause-passed : goal.pass_content-returns-in-Bytes-clause-passed
pass_content-returns-in-Bytes-clause-passed t m c =
    rw c.in-Bytes.is (bytes_behind (item_at c.args.left) (λ x. x.now) c.args.spelled.now.items c.pass_bytes.new.spelled.items c.pass_bytes.result c.args.argument c.args.bytes.now (λ i. omega (arith, c.type_inv.bytes i)) c.pass_bytes.ensures.passed)

pub pass_content-returns-in-Text-clause-passed : goal.pass_content-returns-in-Text-clause-passed
pass_content-returns-in-Text-clause-passed t m c =
    rw c.in-Text.is (text_behind (item_at c.args.left) (λ x. x.now) c.args.spelled.now.items c.pass_text.new.spelled.items c.pass_text.result c.args.argument c.args.bytes.now (λ i. omega (arith, c.type_inv.bytes i)) c.pass_text.ensures.passed)

pub pass_content-returns-in-Array-clause-passed : goal.pass_content-returns-in-Array-clause-passed
pass_content-returns-in-Array-clause-passed t m c =
    rw c.in-Array.is (items_behind (item_at c.args.left) c.args.left (item_takes c.args.left) (λ x. x.now) c.args.spelled.now.items c.pass_items.new.spelled.items c.pass_items.result c.args.argument c.args.bytes.now (λ i. omega (arith, c.type_inv.bytes i)) c.pass_items.ensures.passed)

pub pass_content-returns-in-Map-clause-passed : goal.pass_content-returns-in-Map-clause-passed
pass_content-returns-in-Map-clause-passed t m c =
    rw c.in-Map.is (pairs_behind (item_at c.args.left) c.args.left (item_takes c.args.left) (λ x. x.now) c.args.spelled.now.items c.pass_pairs.new.spelled.items c.pass_pairs.result c.args.argument c.args.bytes.now (λ i. omega (arith, c.type_inv.bytes i)) c.pass_pairs.ensures.passed)

-- ---- pairs

pub pass_each_pair-loop-init : goal.pass_each_pair-loop-init
pass_each_pair-loop-init t m c = pairs_start (item_at c.args.left) c.args.count c.args.bytes.now c.args.spelled.now.items c.args.keys.now.items (λ i. omega (arith, c.type_inv.bytes i))

pub pass_each_pair-returns-in_err-behind_key-clause-passed : goal.pass_each_pair-returns-in_err-behind_key-clause-passed
pass_each_pair-returns-in_err-behind_key-clause-passed t m c =
    let p = err_from_is_err_and c.from_residual.result c.from_residual.ensures.1 in
    rw (p.1, p.2)
    (key_ends {X = Bor (List ℕ)} (item_at c.args.left) (λ x. x.now) c.args.count c.loop.counter c.args.bytes.now c.loop.rest.now c.args.spelled.now.items c.loop.spelled.items c.pass.new.spelled.items c.args.keys.now.items c.loop.keys.items c.pass.new.keys.items c.in_err-behind_key.field-0.0
    c.loop-test.true c.loop.invariant c.pass.ensures.grown c.pass.ensures.keys c.in_err-behind_key.ensures.passed)

pub pass_each_pair-returns-in_err-note_key-clause-passed : goal.pass_each_pair-returns-in_err-note_key-clause-passed
pass_each_pair-returns-in_err-note_key-clause-passed t m c =
    let p = err_from_is_err_and c.from_residual-in_err-note_key.result c.from_residual-in_err-note_key.ensures.1 in
    rw (p.1, p.2)
    (room_ends {X = Bor (List ℕ)} (item_at c.args.left) (λ x. x.now) c.args.count c.loop.counter c.args.bytes.now c.loop.rest.now c.args.spelled.now.items c.loop.spelled.items c.pass.new.spelled.items c.args.keys.now.items c.loop.keys.items c.note_key.new.keys.items c.in_err-note_key.field-0.0
    c.loop.invariant c.pass.ensures.grown (c.in_err-note_key.ensures.1 ∙ c.pass.ensures.keys) c.in_err-note_key.ensures.0)

pub pass_each_pair-returns-in_err-rest-clause-passed : goal.pass_each_pair-returns-in_err-rest-clause-passed
pass_each_pair-returns-in_err-rest-clause-passed t m c =
    let p = err_from_is_err_and c.from_residual-in_err-rest.result c.from_residual-in_err-rest.ensures.1 in
    let (key, noted, start, end) = c.in_ok-note_key.ensures in
    let (k, read, text) = c.in_ok-behind_key.ensures.passed in
    let x = key_passed (item_at c.args.left) c.args.left (item_takes c.args.left) c.args.count c.loop.counter c.args.bytes.now c.loop.rest.now c.in_ok-behind_key.behind_key.now c.args.spelled.now.items c.loop.spelled.items c.pass.new.spelled.items
    c.args.keys.now.items c.loop.keys.items c.note_key.new.keys.items k key c.loop-test.true c.loop.invariant read text (noted ∙ ap (λ (z : List Key). z ++ key ∷ []) c.pass.ensures.keys) (start ∙ c.len-start.ensures.value) (end ∙ ap length c.as_slice.ensures.value) in
    rw (p.1, p.2)
    (value_ends {X = Bor (List ℕ)} (item_at c.args.left) (λ x. x.now) c.args.count c.loop.counter c.args.bytes.now c.loop.rest.now c.in_ok-behind_key.behind_key.now c.args.spelled.now.items c.loop.spelled.items c.pass.new.spelled.items c.pass-in-loop.new.spelled.items
    c.args.keys.now.items c.note_key.new.keys.items c.pass-in-loop.new.keys.items k c.in_err-rest.field-0.0 c.loop-test.true x c.pass-in-loop.ensures.grown c.pass-in-loop.ensures.keys c.in_err-rest.ensures.passed)

pub pass_each_pair-loop-preserved : goal.pass_each_pair-loop-preserved
pass_each_pair-loop-preserved t m c =
    let (key, noted, start, end) = c.in_ok-note_key.ensures in
    let (k, read, text) = c.in_ok-behind_key.ensures.passed in
    let (v, read_value, more) = c.in_ok-rest.ensures.passed in
    let x = key_passed (item_at c.args.left) c.args.left (item_takes c.args.left) c.args.count c.loop.counter c.args.bytes.now c.loop.rest.now c.in_ok-behind_key.behind_key.now c.args.spelled.now.items c.loop.spelled.items c.pass.new.spelled.items
    c.args.keys.now.items c.loop.keys.items c.note_key.new.keys.items k key c.loop-test.true c.loop.invariant read text (noted ∙ ap (λ (z : List Key). z ++ key ∷ []) c.pass.ensures.keys) (start ∙ c.len-start.ensures.value) (end ∙ ap length c.as_slice.ensures.value) in
    pair_passed (item_at c.args.left) c.args.left (item_takes c.args.left) c.args.count c.loop.counter c.args.bytes.now c.loop.rest.now c.in_ok-behind_key.behind_key.now c.in_ok-rest.rest.now c.args.spelled.now.items c.loop.spelled.items c.pass.new.spelled.items
    c.pass-in-loop.new.spelled.items c.args.keys.now.items c.note_key.new.keys.items c.pass-in-loop.new.keys.items k v c.loop-test.true x read_value more c.pass-in-loop.ensures.keys

pub pass_each_pair-returns-clause-passed : goal.pass_each_pair-returns-clause-passed
pass_each_pair-returns-clause-passed t m c =
    all_passed (item_at c.args.left) c.args.count c.loop.counter c.args.bytes.now c.loop.rest.now c.args.spelled.now.items c.loop.spelled.items c.args.keys.now.items c.loop.keys.items c.loop-test.false c.loop.invariant

-- ---- items

pub pass_items-loop-init : goal.pass_items-loop-init
pass_items-loop-init t m c = items_start (item_at c.args.left) c.args.count c.args.bytes.now c.args.spelled.now.items c.args.keys.now.items

pub pass_items-returns-in_err-rest-clause-passed : goal.pass_items-returns-in_err-rest-clause-passed
pass_items-returns-in_err-rest-clause-passed t m c =
    let p = err_from_is_err_and c.from_residual.result c.from_residual.ensures.1 in
    rw (p.1, p.2)
    (item_ends {X = Bor (List ℕ)} (item_at c.args.left) (λ x. x.now) c.args.count c.loop.counter c.args.bytes.now c.loop.rest.now c.args.spelled.now.items c.loop.spelled.items c.pass.new.spelled.items c.args.keys.now.items c.loop.keys.items c.in_err-rest.field-0.0
    c.loop-test.true c.loop.invariant c.in_err-rest.ensures.passed)

pub pass_items-loop-preserved : goal.pass_items-loop-preserved
pass_items-loop-preserved t m c =
    item_passed (item_at c.args.left) c.args.count c.loop.counter c.args.bytes.now c.loop.rest.now c.in_ok-rest.rest.now c.args.spelled.now.items c.loop.spelled.items c.pass.new.spelled.items c.args.keys.now.items c.loop.keys.items c.pass.new.keys.items c.in_ok-rest.ensures.passed.0
    c.loop-test.true c.loop.invariant c.in_ok-rest.ensures.passed.1 c.in_ok-rest.ensures.passed.2 c.pass.ensures.keys

pub pass_items-returns-clause-passed : goal.pass_items-returns-clause-passed
pass_items-returns-clause-passed t m c =
    items_passed (item_at c.args.left) c.args.count c.loop.counter c.args.bytes.now c.loop.rest.now c.args.spelled.now.items c.loop.spelled.items c.args.keys.now.items c.loop.keys.items c.loop-test.false c.loop.invariant

-- ---- a whole map

pub pass_pairs-returns-in-Apart-clause-passed : goal.pass_pairs-returns-in-Apart-clause-passed
pass_pairs-returns-in-Apart-clause-passed t m c =
    let end = c.pass_each_pair-end in
    let rows_are : pieces c.as_slice.result.now (drop c.len-first.result end.new.keys.items) ≡ pieces end.new.spelled.items (drop (length c.args.keys.now.items) end.new.keys.items) =
    ap₂ (λ (s : List ℕ) (n : ℕ). pieces s (drop n end.new.keys.items)) c.as_slice.ensures.value c.len-first.ensures.value in
    they_are_apart _ _ _ (subst AreApart rows_are c.in-Apart.ensures.says) end.ensures.passed

pub pass_pairs-returns-in-Repeated-clause-passed : goal.pass_pairs-returns-in-Repeated-clause-passed
pass_pairs-returns-in-Repeated-clause-passed t m c =
    let end = c.pass_each_pair-end in
    let rows_are : pieces c.as_slice.result.now (drop c.len-first.result end.new.keys.items) ≡ pieces end.new.spelled.items (drop (length c.args.keys.now.items) end.new.keys.items) =
    ap₂ (λ (s : List ℕ) (n : ℕ). pieces s (drop n end.new.keys.items)) c.as_slice.ensures.value c.len-first.ensures.value in
    one_repeats _ _ _ (subst Repeats rows_are c.in-Repeated.ensures.says) end.ensures.passed

-- ---- a short number

pub pass-returns-in-Some-pass_number-clause-passed : goal.pass-returns-in-Some-pass_number-clause-passed
pass-returns-in-Some-pass_number-clause-passed t m c =
    number_passed c.args.left c.in-Some.first.now c.in-Some.rest.now c.args.bytes.now c.in-Some-pass_number.rest.now c.args.spelled.now.items c.pass_number.new.spelled.items c.in-Some.ensures.cases.0 (omega (arith, c.if-left-eq0.false)) c.in-Some-pass_number.ensures.passed

pub pass-returns-in-Some-pass_number-clause-grown : goal.pass-returns-in-Some-pass_number-clause-grown
pass-returns-in-Some-pass_number-clause-grown t m c = let (d, _, more) = c.in-Some-pass_number.ensures.passed 0 in (spelling d, more)

pub pass-returns-clause-passed : goal.pass-returns-clause-passed
pass-returns-clause-passed t m c =
    let n : suc (c.args.left - 1) ≡ c.args.left = omega (arith, c.if-left-eq0.false) in
    let found : item_at (suc (c.args.left - 1)) (c.in-Some.first.now ∷ c.in-Some.rest.now) ≡ item_at c.args.left c.args.bytes.now = ap₂ (λ (k : ℕ) (x : List ℕ). item_at k x) n (sym c.in-Some.ensures.cases.0) in
    subst (λ (old : List ℕ). Passes {X = Bor (List ℕ)} spelling (λ x. x.now) old c.pass_behind.new.spelled.items c.pass_behind.result (item_at c.args.left c.args.bytes.now)) c.in_default-pass_number.ensures.none
    (subst (λ (read : Found). Passes {X = Bor (List ℕ)} spelling (λ x. x.now) c.pass_number.new.spelled.items c.pass_behind.new.spelled.items c.pass_behind.result read) found c.pass_behind.ensures.passed)
