use Rattle.std.proofs.Common.{◌+◌, refl, sym, ◌∙◌, subst}
use Rattle.osc_authz.specs.{In}
use Rattle.osc_run.proofs.Members.{slice_from}
use Rattle.osc_run.proofs.NotedPremise.{own_secrets_more, shared_secret}
use Rattle.osc_run.proofs.premise.have_own_secrets.Goals as goal

pub returns-then-is_secret_of_one : goal.returns-then-is_secret_of_one
returns-then-is_secret_of_one c = (
  (λ e. absurd (cc)),
  (λ h.
      let one = c.if-is_secret_of_one.ensures.0 refl in
      absurd (shared_secret c.args.minted.now c.loop-i.i c.index-minted-i.result c.loop-i-test.true c.index-minted-i.is h one.0
      (subst (In one.0) (slice_from c.args.minted.now (c.loop-i.i + 1)) one.1) (one.2 ∙ c.secret_of.ensures))),
)

pub loop-i-preserved : goal.loop-i-preserved
loop-i-preserved c = λ rest.
    c.loop-i.invariant
    (own_secrets_more c.args.minted.now c.loop-i.i c.index-minted-i.result c.loop-i-test.true c.index-minted-i.is rest
    (λ other m e. absurd (cc (c.if-is_secret_of_one.ensures.1
    (other, subst (In other) (sym (slice_from c.args.minted.now (c.loop-i.i + 1))) m, e ∙ sym c.secret_of.ensures)))))
