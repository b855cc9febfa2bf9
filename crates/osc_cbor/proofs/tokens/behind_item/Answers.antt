use Rattle.std.proofs.Common.{arith}
use Rattle.osc_cbor.proofs.TokenLaws.{token_shorter, pending_start, pending_leaf, pending_many, never_more, pending_refused, pending_done}
use Rattle.osc_cbor.proofs.tokens.behind_item.Goals as goal

pub loop-todo-init : goal.loop-todo-init
loop-todo-init c = λ d front rest s whole. pending_start c.args.bytes.now d front rest s whole

pub loop-todo-smaller-in-Some : goal.loop-todo-smaller-in-Some
loop-todo-smaller-in-Some c =
    let (t, read, none) = c.in-Some.ensures in
    let h = token_shorter c.loop-todo.rest.now t c.in-Some.after.now read in
    omega arith

pub loop-todo-preserved-in-Some : goal.loop-todo-preserved-in-Some
loop-todo-preserved-in-Some c = λ d front rest s whole.
    let (t, read, none) = c.in-Some.ensures in
    pending_leaf c.loop-todo.todo c.loop-todo.rest.now rest t c.in-Some.after.now (c.loop-todo.invariant d front rest s whole) (omega arith) read none

pub returns-in_default-token_of : goal.returns-in_default-token_of
returns-in_default-token_of c = λ d front rest s whole.
    let p = c.loop-todo.invariant d front rest s whole in
    absurd (pending_refused c.loop-todo.todo c.loop-todo.rest.now rest c.in_default-token_of.field-0 p (omega arith) c.in_default-token_of.ensures)

pub loop-todo-smaller : goal.loop-todo-smaller
loop-todo-smaller c = let h = token_shorter c.loop-todo.rest.now (c.in-Ok.token.0, c.in-Ok.token.1, c.in-Ok.token.2.now) c.in-Ok.after.now c.in-Ok.ensures in omega arith

pub returns-then-todo-size_of : goal.returns-then-todo-size_of
returns-then-todo-size_of c = λ d front rest s whole.
    let p = c.loop-todo.invariant d front rest s whole in
    let h = never_more c.loop-todo.todo c.inside.result c.saturating_add-todo.result c.loop-todo.rest.now rest (c.in-Ok.token.0, c.in-Ok.token.1, c.in-Ok.token.2.now) c.in-Ok.after.now p (omega arith) c.in-Ok.ensures c.inside.ensures c.saturating_add-todo.ensures in
    absurd (omega (arith, h))

pub loop-todo-preserved : goal.loop-todo-preserved
loop-todo-preserved c = λ d front rest s whole.
    let p = c.loop-todo.invariant d front rest s whole in
    pending_many c.loop-todo.todo c.inside.result c.saturating_add-todo.result c.loop-todo.rest.now rest (c.in-Ok.token.0, c.in-Ok.token.1, c.in-Ok.token.2.now) c.in-Ok.after.now p (omega arith) c.in-Ok.ensures (omega arith) c.inside.ensures c.saturating_add-todo.ensures

pub returns : goal.returns
returns c = λ d front rest s whole.
    pending_done c.loop-todo.todo c.loop-todo.rest.now rest (c.loop-todo.invariant d front rest s whole) (omega arith)
