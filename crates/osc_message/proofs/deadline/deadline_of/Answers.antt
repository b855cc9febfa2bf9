use Rattle.std.proofs.Common.{◌∙◌, not, ap, sym, arith}
use Rattle.std.proofs.lemmas.Bool.{le-leb}
use Rattle.osc_message.specs.{is_kept}
use Rattle.osc_message.proofs.Idle.{not_kept}
use Rattle.osc_message.proofs.deadline.deadline_of.Goals as goal

pub returns-in-Keep-clause-reached : goal.returns-in-Keep-clause-reached
returns-in-Keep-clause-reached c = λ now all earlier place.
    rw c.in-None.is (ap (λ due. not (is_kept due)) (sym c.in-Keep.is ∙ c.due_of_waiting.ensures.due all earlier (place c.in-None.is)))

pub returns-in_default : goal.returns-in_default
returns-in_default c = record {
  none = tt;
  reached = λ now all earlier place.
      rw c.in-None.is
      (le-leb 0 now.ms (omega arith)
      ∙ sym (not_kept _ c.in_default.not-Keep)
      ∙ ap (λ due. not (is_kept due)) (c.due_of_waiting.ensures.due all earlier (place c.in-None.is)));
}
