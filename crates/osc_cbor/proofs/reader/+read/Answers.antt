use Rattle.std.proofs.Common.{◌≡◌, sym, ap, ◌∙◌, arith}
use Rattle.std.proofs.lemmas.Result.{err_from_is_err_and}
use Rattle.osc_cbor.specs.{any_item_at, view, items_view, pairs_view}
use Rattle.osc_cbor.proofs.Views.{items_view-push, pairs_view-push}
use Rattle.osc_cbor.proofs.ReadSteps.{items_more, items_refused, items_done, any_pairs_more, any_key_refused, any_value_refused, any_pairs_done, any_item_headed}
use Rattle.osc_cbor.proofs.reader.+read.Goals as goal

pub items_of-returns-in_err-item : goal.items_of-returns-in_err-item
items_of-returns-in_err-item t c =
    let p = err_from_is_err_and c.from_residual-in_err-item.result c.from_residual-in_err-item.ensures.1 in
    rw (p.1, p.2, ← c.loop.invariant) (items_refused c.in_err-item.field-0.0 (any_item_at c.args.left) (items_view c.loop.items.items) c.args.count c.loop.counter c.loop.rest.now c.loop-test.true c.in_err-item.ensures)

pub items_of-loop-preserved : goal.items_of-loop-preserved
items_of-loop-preserved t c =
    let grown : items_view c.push.new.self.items ≡ _ = ap items_view c.in_ok-push.ensures.items ∙ items_view-push c.loop.items.items c.in_ok-item.item in
    rw grown (sym (items_more (any_item_at c.args.left) (items_view c.loop.items.items) c.args.count c.loop.counter c.loop.rest.now (view c.in_ok-item.item) c.in_ok-item.after.now c.loop-test.true c.in_ok-item.ensures) ∙ c.loop.invariant)

pub items_of-returns : goal.items_of-returns
items_of-returns t c = sym c.loop.invariant ∙ items_done (any_item_at c.args.left) (items_view c.loop.items.items) c.args.count c.loop.counter c.loop.rest.now c.loop-test.false

pub pairs_of-returns-in_err-key : goal.pairs_of-returns-in_err-key
pairs_of-returns-in_err-key t c =
    let p = err_from_is_err_and c.from_residual-in_err-key.result c.from_residual-in_err-key.ensures.1 in
    rw (p.1, p.2, ← c.loop.invariant) (any_key_refused c.in_err-key.field-0.0 (any_item_at c.args.left) (pairs_view c.loop.pairs.items) c.args.count c.loop.counter c.loop.rest.now c.loop-test.true c.in_err-key.ensures)

pub pairs_of-returns-in_err-value : goal.pairs_of-returns-in_err-value
pairs_of-returns-in_err-value t c =
    let p = err_from_is_err_and c.from_residual-in_err-value.result c.from_residual-in_err-value.ensures.1 in
    rw (p.1, p.2, ← c.loop.invariant) (any_value_refused c.in_err-value.field-0.0 (any_item_at c.args.left) (pairs_view c.loop.pairs.items) c.args.count c.loop.counter c.loop.rest.now (view c.in_ok-key.key) c.in_ok-key.behind_key.now c.loop-test.true c.in_ok-key.ensures c.in_err-value.ensures)

pub pairs_of-loop-preserved : goal.pairs_of-loop-preserved
pairs_of-loop-preserved t c =
    let grown : pairs_view c.push.new.self.items ≡ _ = ap pairs_view c.in_ok-push.ensures.items ∙ pairs_view-push c.loop.pairs.items c.in_ok-key.key c.in_ok-value.value in
    rw grown (sym (any_pairs_more (any_item_at c.args.left) (pairs_view c.loop.pairs.items) c.args.count c.loop.counter c.loop.rest.now (view c.in_ok-key.key) (view c.in_ok-value.value) c.in_ok-key.behind_key.now c.in_ok-value.after.now c.loop-test.true c.in_ok-key.ensures c.in_ok-value.ensures) ∙ c.loop.invariant)

pub pairs_of-returns : goal.pairs_of-returns
pairs_of-returns t c = sym c.loop.invariant ∙ any_pairs_done (any_item_at c.args.left) (pairs_view c.loop.pairs.items) c.args.count c.loop.counter c.loop.rest.now c.loop-test.false

pub item_of-returns-in_ok-argument-in-Some-major_of : goal.item_of-returns-in_ok-argument-in-Some-major_of
item_of-returns-in_ok-argument-in-Some-major_of t c =
    let first = c.in-Some.first.now in
    let headed = any_item_headed c.args.left first c.in-Some.rest.now c.in-Some-major_of.major (omega arith) (sym c.in-Some-major_of.ensures) in
    rw (c.in-Some.ensures.cases.0, headed, c.in_ok-argument-in-Some-major_of.ensures) c.content_of.ensures
