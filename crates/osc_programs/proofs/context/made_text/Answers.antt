use Rattle.std.proofs.lemmas.Result.{IfOk-weaker, IfErr-weaker}
use Rattle.osc_programs.proofs.Contexts.{turn_agree}
use Rattle.osc_programs.proofs.Inputs.{always_ok}
use Rattle.osc_programs.proofs.context.made_text.Goals as goal

pub returns-clause-made : goal.returns-clause-made
returns-clause-made g c =
    IfOk-weaker c.made_at.result _ _
    (λ text made. (c.in_ok-client.client, made.0, c.in_ok-settings.settings, made.1, c.in_ok-settings.ensures.settings, c.in_ok-client.ensures.client, made.2, made.3, made.4, made.5))
    c.made_at.ensures.made

pub returns-clause-ends : goal.returns-clause-ends
returns-clause-ends g c = IfErr-weaker c.made_at.result _ _ turn_agree c.made_at.ensures.ends

pub returns-clause-short : goal.returns-clause-short
returns-clause-short g c = always_ok c.made_at.result c.in_ok-settings.ensures.short
