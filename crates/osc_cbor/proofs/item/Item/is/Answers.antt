use Rattle.std.proofs.Common.{sym, ap, ◌∙◌}
use Rattle.osc_cbor.specs.{same, view}
use Rattle.osc_cbor.proofs.KeyLaws.{same_means, same_itself}
use Rattle.osc_cbor.proofs.item.Item.is.Goals as goal

pub returns : goal.returns
returns c = (λ e. same_means _ _ (sym c.same.ensures ∙ e), λ e. c.same.ensures ∙ ap (same (view c.args.self.now)) (sym e) ∙ same_itself (view c.args.self.now))
