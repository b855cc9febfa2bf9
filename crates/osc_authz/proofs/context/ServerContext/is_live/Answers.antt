use Rattle.std.proofs.Common.{◌∙◌}
use Rattle.osc_authz.specs.Inner.Lives.{is_live_by}
use Rattle.osc_authz.proofs.LifeLemmas.{lives_by}
use Rattle.osc_authz.proofs.context.ServerContext.is_live.Goals as goal

pub returns : goal.returns
returns c =
    c.is_live_by.ensures
    ∙ (λ i. is_live_by (c.on.view_is i).at c.args.revoked.now c.args.self.now)
    ∙ lives_by c.args.on.now c.args.revoked.now c.args.self.now c.requires
