use Rattle.std.proofs.lemmas.Result.{IfErr-weaker, IfOk-weaker}
use Rattle.osc_programs.proofs.Inputs.{always_ok}
use Rattle.osc_programs.proofs.EndsEach.{each_ask}
use Rattle.osc_programs.proofs.requests.each_by.Goals as goal

pub returns-clause-stays : goal.returns-clause-stays
returns-clause-stays g c =
    IfOk-weaker c.run_at.result _ _
    (λ ended stays. (c.in_ok-client.client, c.in_ok-settings.settings, c.in_ok-settings.ensures.settings, c.in_ok-client.ensures.client, stays.0, stays.1, stays.2, stays.3, stays.4, stays.5, stays.6))
    c.run_at.ensures.stays

pub returns-clause-ends : goal.returns-clause-ends
returns-clause-ends g c = IfErr-weaker c.run_at.result _ _ each_ask c.run_at.ensures.ends

pub returns-clause-short : goal.returns-clause-short
returns-clause-short g c = always_ok c.run_at.result c.in_ok-settings.ensures.short
