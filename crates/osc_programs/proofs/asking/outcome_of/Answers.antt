use Rattle.std.proofs.lemmas.Result.{IfOk-weaker, IfErr-weaker}
use Rattle.osc_programs.proofs.Inputs.{always_ok}
use Rattle.osc_programs.proofs.Taken.{talk_ask}
use Rattle.osc_programs.proofs.asking.outcome_of.Goals as goal

pub returns-clause-talks : goal.returns-clause-talks
returns-clause-talks g c =
    IfOk-weaker c.run_at.result _ _
    (λ outcome talks. (c.in_ok-client.client, talks.0, c.in_ok-settings.settings, c.in_ok-settings.ensures.settings, c.in_ok-client.ensures.client, talks.1, talks.2))
    c.run_at.ensures.talks

pub returns-clause-ends : goal.returns-clause-ends
returns-clause-ends g c = IfErr-weaker c.run_at.result _ _ (talk_ask c.args.words.now.request) c.run_at.ensures.ends

pub returns-clause-short : goal.returns-clause-short
returns-clause-short g c = always_ok c.run_at.result c.in_ok-settings.ensures.short
