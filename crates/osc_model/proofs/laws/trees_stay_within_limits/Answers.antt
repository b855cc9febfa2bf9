use Rattle.osc_model.proofs.WithinLimits.{limits_empty, limits_insert, limits_remove}
use Rattle.osc_model.proofs.laws.trees_stay_within_limits.Goals as goal

pub returns : goal.returns
returns c = record { empty = limits_empty; insert = limits_insert; remove = limits_remove }
