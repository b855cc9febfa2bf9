use Rattle.std.proofs.Common.{not, rules}
use Rattle.std.proofs.lemmas.Fn.{filter_same}
use Rattle.osc_model.specs.{same_peer}
use Rattle.osc_message.proofs.pace.take_out.Goals as goal

pub returns-clause-items : goal.returns-clause-items
returns-clause-items c = filter_same _ (λ other. not (same_peer c.args.peer other)) _ (λ x b f r. search rules) _ _ c.retain.ensures.filtered
