use Rattle.std.proofs.Common.{◌∙◌, ap, subst}
use Rattle.osc_simulation.specs.Names.{Names}
use Rattle.osc_simulation.specs.{AllEnrolled, with_proxies}
use Rattle.osc_simulation.proofs.set_up.start_of.Goals as goal

pub returns-in-Ok : goal.returns-in-Ok
returns-in-Ok c =
    let lines = c.args.lines.now in
    let filled = c.in-Ok.ensures in
    let enrolled = subst (λ first. AllEnrolled lines first lines filled.0) c.in_ok-start.ensures filled.1 in
    (filled.0, enrolled, filled.2 ∙ ap (λ (names : Names). with_proxies filled.0 names.proxies) c.requires.names)
