use Rattle.std.proofs.Common.{◌≡◌, ℕ, List, true, false, refl, sym, subst, ◌∙◌, arith}
use Rattle.std.proofs.lemmas.Result.{err_from_is_err_and}
use Rattle.osc_cbor.specs.{unsigned, negative, no_items, content_at, push_item, item_at, has_key, Spells}
use Rattle.osc_cbor.proofs.FoundLaws.{item_takes}
use Rattle.osc_cbor.proofs.ReadSteps.{items_more, items_done, pairs_done, pairs_again}
use Rattle.osc_cbor.proofs.ExtentLaws.{all_left, items_err, key_err, value_err, passed_start, passed_step}
use Rattle.osc_cbor.proofs.extents.+extent.Goals as goal

pub behind_content-returns-in-Unsigned : goal.behind_content-returns-in-Unsigned
unfolding content_at
behind_content-returns-in-Unsigned t c = (unsigned c.args.argument, rw c.in-Unsigned.is refl)

pub behind_content-returns-in-Negative : goal.behind_content-returns-in-Negative
unfolding content_at
behind_content-returns-in-Negative t c = (negative c.args.argument, rw c.in-Negative.is refl)

pub behind_items-loop-init : goal.behind_items-loop-init
behind_items-loop-init t c = (no_items, all_left (item_at c.args.left) no_items c.args.count c.args.bytes.now)

pub behind_items-returns-in_err-rest : goal.behind_items-returns-in_err-rest
behind_items-returns-in_err-rest t c =
    let p = err_from_is_err_and c.from_residual.result c.from_residual.ensures.1 in
    rw (p.1, p.2) (sym c.loop.invariant.1 ∙ items_err c.in_err-rest.field-0.0 (item_at c.args.left) c.loop.invariant.0 c.args.count c.loop.counter c.loop.rest.now c.loop-test.true c.in_err-rest.ensures)

pub behind_items-loop-preserved : goal.behind_items-loop-preserved
behind_items-loop-preserved t c =
    (push_item c.loop.invariant.0 c.in_ok-rest.ensures.0, sym (items_more (item_at c.args.left) c.loop.invariant.0 c.args.count c.loop.counter c.loop.rest.now c.in_ok-rest.ensures.0 c.in_ok-rest.rest.now c.loop-test.true c.in_ok-rest.ensures.1) ∙ c.loop.invariant.1)

pub behind_items-returns : goal.behind_items-returns
behind_items-returns t c =
    (c.loop.invariant.0, sym c.loop.invariant.1 ∙ items_done (item_at c.args.left) c.loop.invariant.0 c.args.count c.loop.counter c.loop.rest.now c.loop-test.false)

pub behind_pairs-loop-index-init : goal.behind_pairs-loop-index-init
behind_pairs-loop-index-init t c = passed_start (item_at c.args.left) c.args.count c.args.bytes.now (λ i. omega (arith, c.type_inv.bytes i))

pub behind_pairs-returns-in_err-behind_key : goal.behind_pairs-returns-in_err-behind_key
behind_pairs-returns-in_err-behind_key t c =
    let p = err_from_is_err_and c.from_residual.result c.from_residual.ensures.1 in
    let x = c.loop-index.invariant in
    rw (p.1, p.2) (sym x.left ∙ key_err c.in_err-behind_key.field-0.0 (item_at c.args.left) x.before c.args.count c.loop-index.index c.loop-index.rest.now c.loop-index-test.true c.in_err-behind_key.ensures)

pub behind_pairs-returns-then-has_spelled_key : goal.behind_pairs-returns-then-has_spelled_key
behind_pairs-returns-then-has_spelled_key t c =
    let x = c.loop-index.invariant in
    let k = c.in_ok-behind_key.ensures.0 in
    let took = item_takes c.args.left c.loop-index.rest.now k c.in_ok-behind_key.behind_key.now x.fits c.in_ok-behind_key.ensures.1 in
    let key : Spells c.taken.result.now k = subst (λ (y : List ℕ). Spells y k) (sym (c.taken.ensures took.front took.whole)) took.spelled in
    let old : has_key k x.before ≡ true = sym (c.has_spelled_key.ensures k x.before x.front c.loop-index.rest.now key x.spelled x.counted x.whole) ∙ c.if-has_spelled_key.true in
    sym x.left ∙ pairs_again (item_at c.args.left) x.before c.args.count c.loop-index.index c.loop-index.rest.now k c.in_ok-behind_key.behind_key.now c.loop-index-test.true c.in_ok-behind_key.ensures.1 old

pub behind_pairs-returns-in_err-rest : goal.behind_pairs-returns-in_err-rest
behind_pairs-returns-in_err-rest t c =
    let p = err_from_is_err_and c.from_residual-in_err-rest.result c.from_residual-in_err-rest.ensures.1 in
    let x = c.loop-index.invariant in
    let k = c.in_ok-behind_key.ensures.0 in
    let took = item_takes c.args.left c.loop-index.rest.now k c.in_ok-behind_key.behind_key.now x.fits c.in_ok-behind_key.ensures.1 in
    let key : Spells c.taken.result.now k = subst (λ (y : List ℕ). Spells y k) (sym (c.taken.ensures took.front took.whole)) took.spelled in
    let new : has_key k x.before ≡ false = sym (c.has_spelled_key.ensures k x.before x.front c.loop-index.rest.now key x.spelled x.counted x.whole) ∙ c.if-has_spelled_key.false in
    rw (p.1, p.2) (sym x.left ∙ value_err c.in_err-rest.field-0.0 (item_at c.args.left) x.before c.args.count c.loop-index.index c.loop-index.rest.now k c.in_ok-behind_key.behind_key.now c.loop-index-test.true c.in_ok-behind_key.ensures.1 new c.in_err-rest.ensures)

pub behind_pairs-loop-index-preserved : goal.behind_pairs-loop-index-preserved
behind_pairs-loop-index-preserved t c =
    let x = c.loop-index.invariant in
    let k = c.in_ok-behind_key.ensures.0 in
    let took = item_takes c.args.left c.loop-index.rest.now k c.in_ok-behind_key.behind_key.now x.fits c.in_ok-behind_key.ensures.1 in
    let key : Spells c.taken.result.now k = subst (λ (y : List ℕ). Spells y k) (sym (c.taken.ensures took.front took.whole)) took.spelled in
    let new : has_key k x.before ≡ false = sym (c.has_spelled_key.ensures k x.before x.front c.loop-index.rest.now key x.spelled x.counted x.whole) ∙ c.if-has_spelled_key.false in
    passed_step (item_at c.args.left) c.args.left (item_takes c.args.left) c.args.count c.loop-index.index c.args.bytes.now c.loop-index.rest.now x c.loop-index-test.true k c.in_ok-behind_key.behind_key.now c.in_ok-behind_key.ensures.1 new c.in_ok-rest.ensures.0 c.in_ok-rest.rest.now c.in_ok-rest.ensures.1

pub behind_pairs-returns : goal.behind_pairs-returns
behind_pairs-returns t c =
    let x = c.loop-index.invariant in
    (x.before, sym x.left ∙ pairs_done (item_at c.args.left) x.before c.args.count c.loop-index.index c.loop-index.rest.now c.loop-index-test.false)
