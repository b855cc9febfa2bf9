use Rattle.std.proofs.Common.{◌∙◌}
use Rattle.osc_script.proofs.GrantWords.{sealed_by}
use Rattle.osc_script.proofs.set_up.can_be_sealed.Goals as goal

pub returns : goal.returns
returns c = sealed_by c.len.result c.in_ok-text.text.items c.args.scope.now c.args.not_before c.args.expires c.args.alg c.in_ok-claims.claims (c.len.ensures ∙ c.in_ok-text.text.ok.0) c.in_ok-text.ensures c.in_ok-claims.ensures
