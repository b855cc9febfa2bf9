use Rattle.std.proofs.Common.{◌≡◌, ℕ, ◌-◌, ◌+◌, ◌++◌, true, false, List, sym, ap, subst, ◌∙◌, arith}
use Rattle.osc_cbor.specs.{same, Spells}
use Rattle.osc_cbor.specs.Inner.Tokens.{Keys}
use Rattle.osc_cbor.proofs.TokenLaws.{keys_start, first_pair, keys_done}
use Rattle.osc_cbor.proofs.tokens.has_spelled_key.Goals as goal

pub loop-init : goal.loop-init
loop-init c = λ k ps front rest is s counted whole. keys_start k ps front c.args.bytes.now rest _ s (omega (arith, counted)) whole

pub returns-then-same_spelled : goal.returns-then-same_spelled
returns-then-same_spelled c = λ k ps front rest is s counted whole.
    let p = first_pair k ps (c.args.count - c.loop.counter) c.loop.rest.now rest (c.loop.invariant k ps front rest is s counted whole) (omega arith) in
    let behind = c.behind_item-behind_key.ensures p.key p.key_bytes _ p.is_key p.whole in
    let key = c.taken.ensures p.key_bytes (p.whole ∙ ap (λ (x : List ℕ). p.key_bytes ++ x) (sym behind)) in
    let test : same k p.key ≡ true = sym (c.same_spelled.ensures k p.key is (subst (λ (x : List ℕ). Spells x p.key) (sym key) p.is_key)) ∙ c.if-same_spelled.true in
    sym (p.found test)

pub loop-preserved : goal.loop-preserved
loop-preserved c = λ k ps front rest is s counted whole.
    let p = first_pair k ps (c.args.count - c.loop.counter) c.loop.rest.now rest (c.loop.invariant k ps front rest is s counted whole) (omega arith) in
    let behind = c.behind_item-behind_key.ensures p.key p.key_bytes _ p.is_key p.whole in
    let key = c.taken.ensures p.key_bytes (p.whole ∙ ap (λ (x : List ℕ). p.key_bytes ++ x) (sym behind)) in
    let test : same k p.key ≡ false = sym (c.same_spelled.ensures k p.key is (subst (λ (x : List ℕ). Spells x p.key) (sym key) p.is_key)) ∙ c.if-same_spelled.false in
    let after = c.behind_item-rest.ensures p.value p.value_bytes p.after p.is_value behind in
    let n : c.args.count - c.loop.counter - 1 ≡ c.args.count - (c.loop.counter + 1) = omega arith in
    subst (λ (x : List ℕ). Keys k ps (c.args.count - (c.loop.counter + 1)) x rest) (sym after) (subst (λ (m : ℕ). Keys k ps m p.after rest) n (p.passed test))

pub returns : goal.returns
returns c = λ k ps front rest is s counted whole.
    keys_done k ps (c.args.count - c.loop.counter) c.loop.rest.now rest (c.loop.invariant k ps front rest is s counted whole) (omega arith)
