use Rattle.std.proofs.Common.{sym, subst}
use Rattle.osc_cose.specs.{IsObject}
use Rattle.osc_cose.proofs.parsing.parse0.Goals as goal

pub returns-in-Some-clause-only : goal.returns-in-Some-clause-only
returns-in-Some-clause-only c =
    let found = rw c.in-Some.is at c.whole.ensures in
    λ d object w o. c.object_of.ensures.only object (subst (λ x. IsObject x object) (sym (found.1 d w)) o)
