-- What is lost came.
use Rattle.std.proofs.Common.{ap, is_err}
use Rattle.osc_turn.proofs.Lost.{has_lost}
use Rattle.osc_turn.proofs.turning.step_on_receipt.Goals as goal

pub returns-in-Err-clause-refused : goal.returns-in-Err-clause-refused
returns-in-Err-clause-refused g c =
    has_lost c.in_ok-got.got _ _ _ _ _ (c.step_of.ensures.came (ap is_err (c.in-Err.is))) c.in_ok-got.ensures.received c.in_ok-got.ensures.not_counted
