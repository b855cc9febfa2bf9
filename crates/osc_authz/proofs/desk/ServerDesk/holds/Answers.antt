use Rattle.std.proofs.Common.{◌≡◌, ◌∙◌, ℕ, List, Some, ap, option_map, sym}
use Rattle.osc_model.specs.declared.context.ContextName.{ContextName}
use Rattle.osc_authz.specs.{with_id}
use Rattle.osc_authz.specs.SecurityContext.{SecurityContext}
use Rattle.osc_authz.proofs.LifeLemmas.{found_in}
use Rattle.osc_authz.proofs.NameLemmas.{held_so, same_name, still_held}
use Rattle.osc_authz.proofs.desk.ServerDesk.holds.Goals as goal

pub returns-then-eq : goal.returns-then-eq
returns-then-eq c =
    let found : with_id c.args.name.now.client_id c.args.self.now.table ≡ Some c.in-Some.context.now =
    sym (ap (λ (id : List ℕ). with_id id c.args.self.now.table) (c.as_slice.ensures ∙ ap (λ (name : ContextName). name.client_id) c.deref.ensures))
    ∙ sym c.get.ensures
    ∙ ap (option_map (λ context. context.now)) c.in-Some.is
    in
    let named : c.eq.result ≡ same_name c.in-Some.context.now.name c.args.name.now = c.eq.ensures ∙ ap (λ (held : SecurityContext). same_name held.name c.args.name.now) c.context.view_is in (
      λ live. still_held c.args.on.now c.args.name.now c.args.self.now.table c.in-Some.context.now c.eq.result c.is_live.result found named c.if-eq.true c.is_live.ensures live,
      λ is. c.is_live.ensures ∙ (held_so c.args.on.now c.args.name.now c.args.self.now.table c.in-Some.context.now found is).1,
    )

pub is_live-requires : goal.is_live-requires
is_live-requires c =
    c.requires c.in-Some.context.now
    (found_in c.args.name.now.client_id c.args.self.now.table c.in-Some.context.now
    (sym (ap (λ (id : List ℕ). with_id id c.args.self.now.table) (c.as_slice.ensures ∙ ap (λ (name : ContextName). name.client_id) c.deref.ensures))
    ∙ sym c.get.ensures
    ∙ ap (option_map (λ context. context.now)) c.in-Some.is))
