use Rattle.std.proofs.Common.{ap, option_map, sym, ◌∙◌}
use Rattle.osc_authz.specs.{with_id}
use Rattle.osc_authz.proofs.LifeLemmas.{found_in}
use Rattle.osc_authz.proofs.desk.ServerDesk.find.Goals as goal

pub is_live-requires : goal.is_live-requires
is_live-requires c =
    let table = c.deref.ensures.value ∙ ap (λ desk. desk.table) c.self.view_is in
    c.requires.marked c.in-Some.context.now
    (found_in c.args.kid.now c.args.self.now.table c.in-Some.context.now
    (sym (ap (with_id c.args.kid.now) table) ∙ sym c.with_id.ensures ∙ ap (option_map (λ context. context.now)) c.in-Some.is))
