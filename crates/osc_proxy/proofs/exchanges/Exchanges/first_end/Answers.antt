use Rattle.std.proofs.Common.{◌≡◌, ℕ, Bool, true, false, ◌||◌, List, refl, ap, sym, ◌∙◌, is_some}
use Rattle.std.specs.List.{list_any}
use Rattle.osc_proxy.specs.declared.exchanges.Exchange.{Exchange}
use Rattle.osc_proxy.proofs.Keys.{one_open}
use Rattle.osc_proxy.proofs.exchanges.Exchanges.first_end.Goals as goal

alone : (b : Bool) → (b || false) ≡ true → b ≡ true
alone true e = refl
alone false e = e

pub returns-clause-open : goal.returns-clause-open
returns-clause-open c =
    λ some.
    let here = c.loop-exchange in
    alone (is_some here.first)
    (ap (λ (all : List (ℕ × Exchange)). is_some here.first || list_any (λ _. true) all) (sym c.in-None.ensures.steps.0)
    ∙ here.invariant.open_is ∙ one_open c.args.self.now some)
