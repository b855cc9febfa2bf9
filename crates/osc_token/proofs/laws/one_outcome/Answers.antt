use Rattle.std.proofs.Common.{[], refl}
use Rattle.osc_token.proofs.OutcomeLemmas.{one_outcome}
use Rattle.osc_token.proofs.laws.one_outcome.Goals as goal

pub returns : goal.returns
returns c = λ text audience now.
    one_outcome text audience now
    (λ d e w v. (c.one_item.ensures text text [] [] d e w.spelled v.spelled refl).1)
    c.one_scope.ensures
