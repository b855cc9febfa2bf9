use Rattle.std.proofs.Common.{◌∙◌, ap, inr, option_map, refl, sym}
use Rattle.osc_words.proofs.Waiting.{seconds_alone_refused}
use Rattle.osc_words.proofs.client_words.patience.Goals as goal

pub returns-in-None-timeout : goal.returns-in-None-timeout
returns-in-None-timeout c = (
  inr refl,
  seconds_alone_refused c.in-None-Some.text.now _ _ (sym (ap (option_map (λ text. text.now)) c.in-None-Some.is-0) ∙ c.text-turns.ensures)
      (sym (ap (option_map (λ text. text.now)) c.in-None-Some.is-1) ∙ c.text-seconds.ensures) c.in-None-timeout.ensures,
)
