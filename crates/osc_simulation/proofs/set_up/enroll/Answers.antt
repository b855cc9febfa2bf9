use Rattle.std.proofs.Common.{◌∙◌, ◌+◌, ap, subst, sym}
use Rattle.osc_script.specs.{claims_of}
use Rattle.osc_world.specs.{Enrols}
use Rattle.osc_simulation.specs.{Enrolled, holder_of, is_sealing, way_by}
use Rattle.osc_simulation.proofs.Holders.{holder_is}
use Rattle.osc_simulation.proofs.set_up.enroll.Goals as goal

pub returns-in_ok-admit-clause-enrolled : goal.returns-in_ok-admit-clause-enrolled
returns-in_ok-admit-clause-enrolled c =
    let old = c.args.start.now in
    let new = c.admit.new.start in
    let all = c.args.lines.now in
    let grant = c.in-Grant in
    let number = c.in_ok-number.ensures ∙ ap (λ n. n + 1) c.requires in
    let way = c.in_ok-way.ensures ∙ ap way_by c.proxy_of.ensures in
    let made = holder_is all c.in_ok-number.number grant.client _ _ _ _ way c.in_ok-claims.ensures c.holder-holder.ensures in
    let holder = made ∙ ap (λ n. holder_of all n grant.client (claims_of n grant.scope grant.not_before grant.expires grant.alg)) number in
    subst (λ line. Enrolled all old line new) (sym grant.is) (subst (λ holder. Enrols is_sealing old holder new) holder c.in_ok-admit.ensures)
