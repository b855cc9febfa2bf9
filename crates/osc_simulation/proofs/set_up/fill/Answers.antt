use Rattle.std.proofs.Common.{◌∙◌, ap}
use Rattle.std.proofs.lemmas.Result.{IfOk-weaker}
use Rattle.osc_simulation.specs.{with_proxies}
use Rattle.osc_simulation.proofs.set_up.fill.Goals as goal

pub returns : goal.returns
returns c =
    let enrolled = c.enroll_all.new.start in
    IfOk-weaker c.add_all.result _ _ (λ _ added. (enrolled, c.in_ok-enroll_all.ensures, added ∙ ap (with_proxies enrolled) c.proxies.ensures)) c.add_all.ensures
