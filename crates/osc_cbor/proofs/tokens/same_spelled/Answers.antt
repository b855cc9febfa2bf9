use Rattle.std.proofs.Common.{[], sym, ◌∙◌, arith}
use Rattle.std.proofs.lemmas.Bool.{false≢true}
use Rattle.osc_cbor.specs.Inner.Tokens.{tokens}
use Rattle.osc_cbor.proofs.TokenLaws.{some_bytes, no_bytes, stream, token_shorter, alike_start, alike_step, alike_differ, alike_refused, alike_short, rows_differ, rows_end}
use Rattle.osc_cbor.proofs.tokens.same_spelled.Goals as goal

pub loop-left-init : goal.loop-left-init
loop-left-init c = λ ts us is_a is_b. alike_start c.args.a.now c.args.b.now ts us is_a is_b

pub returns-in_default : goal.returns-in_default
returns-in_default c = λ d e is_a is_b.
    let x = c.loop-left.invariant (tokens d []) (tokens e []) (stream d c.args.a.now is_a) (stream e c.args.b.now is_b) in
    absurd (alike_refused _ _ c.loop-left.left.now c.loop-left.right.now _ x (some_bytes c.loop-left.left.now (cc)) c.in_default.ensures)

pub returns-in_default-token_of : goal.returns-in_default-token_of
returns-in_default-token_of c = λ d e is_a is_b.
    let x = c.loop-left.invariant (tokens d []) (tokens e []) (stream d c.args.a.now is_a) (stream e c.args.b.now is_b) in
    rows_differ d e (alike_short (tokens d []) (tokens e []) c.loop-left.left.now c.loop-left.right.now _ x (some_bytes c.loop-left.left.now (cc)) c.in_default-token_of.ensures)

pub returns-then-not-is_same : goal.returns-then-not-is_same
returns-then-not-is_same c = λ d e is_a is_b.
    let x = c.loop-left.invariant (tokens d []) (tokens e []) (stream d c.args.a.now is_a) (stream e c.args.b.now is_b) in
    rows_differ d e (alike_differ (tokens d []) (tokens e []) c.loop-left.left.now c.loop-left.right.now _ _ _ _ x c.in-Ok.ensures c.in-Ok-token_of.ensures (λ same. false≢true (sym c.if-not-is_same.true ∙ c.is_same.ensures.1 same)))

pub loop-left-smaller : goal.loop-left-smaller
loop-left-smaller c = let h = token_shorter c.loop-left.left.now _ c.in-Ok.behind_one.now c.in-Ok.ensures in omega arith

pub loop-left-preserved : goal.loop-left-preserved
loop-left-preserved c = λ ts us is_a is_b.
    alike_step ts us c.loop-left.left.now c.loop-left.right.now _ _ c.in-Ok.behind_one.now c.in-Ok-token_of.behind_other.now (c.loop-left.invariant ts us is_a is_b) c.in-Ok.ensures c.in-Ok-token_of.ensures (c.is_same.ensures.0 c.if-not-is_same.false)

pub returns : goal.returns
returns c = λ d e is_a is_b.
    let x = c.loop-left.invariant (tokens d []) (tokens e []) (stream d c.args.a.now is_a) (stream e c.args.b.now is_b) in
    let end = rows_end c.args.a.now c.args.b.now d e c.loop-left.left.now c.loop-left.right.now is_a is_b x (no_bytes c.loop-left.left.now (cc)) in
    c.is_empty-2.ensures ∙ end
