use Rattle.osc_model.proofs.History.{effect_push, legal_push}
use Rattle.osc_model.proofs.laws.one_more_entry.Goals as goal

pub returns : goal.returns
returns c = record { legal = legal_push; effects = effect_push }
