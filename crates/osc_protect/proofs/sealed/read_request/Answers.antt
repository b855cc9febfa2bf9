use Rattle.std.proofs.Common.{List, ℕ, subst, sym}
use Rattle.osc_protect.specs.{SaysRequest}
use Rattle.osc_protect.proofs.sealed.read_request.Goals as goal

pub returns-in-Some-clause-only : goal.returns-in-Some-clause-only
returns-in-Some-clause-only c = λ request is.
    cc (c.in-Some.ensures.only request (subst (λ (bytes : List ℕ). SaysRequest bytes c.args.message.now request) (sym c.bytes.ensures) is))

pub returns-in-None-clause-only : goal.returns-in-None-clause-only
returns-in-None-clause-only c = λ request is.
    cc (c.in-None.ensures.only request (subst (λ (bytes : List ℕ). SaysRequest bytes c.args.message.now request) (sym c.bytes.ensures) is))
