use Rattle.std.proofs.Common.{◌≡◌, List, ℕ, refl, arith}
use Rattle.osc_run.specs.{Minted}
use Rattle.osc_run.proofs.Members.{has_at, none_more, none_of_all}
use Rattle.osc_run.proofs.premise.is_minted.Goals as goal

abbrev HasText : List ℕ → Minted → Type 0
HasText text m = m.text ≡ text

pub returns-then-has_text : goal.returns-then-has_text
returns-then-has_text c = (
  (λ t. has_at (HasText c.args.text.now) c.args.minted.now c.loop-m.m-index c.m-item.result c.loop-m-test.true c.m-item.is (c.if-has_text.ensures.0 refl)),
  (λ d. refl),
)

pub loop-m-preserved : goal.loop-m-preserved
loop-m-preserved c =
    none_more (HasText c.args.text.now) c.args.minted.now c.loop-m.m-index c.m-item.result c.loop-m-test.true c.m-item.is c.loop-m.invariant
    (λ d. absurd (cc (c.if-has_text.ensures.1 d)))

pub returns : goal.returns
returns c = (
  (λ t. absurd (cc)),
  (λ d. absurd (none_of_all (HasText c.args.text.now) c.args.minted.now c.loop-m.m-index (omega (arith, c.loop-m-test.false)) c.loop-m.invariant d)),
)
