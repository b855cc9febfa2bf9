use Rattle.osc_turn.proofs.kept.LifeLemmas.{lived_is_reached, starts_over}
use Rattle.osc_turn.proofs.kept.laws.lives_are_one_run.Goals as goal

pub returns : goal.returns
returns c = record {
  starts = starts_over;
  reached = lived_is_reached;
  one_history = λ w lived. c.one_history.ensures w (lived_is_reached w lived);
}
