use Rattle.std.proofs.Common.{ap, refl, rules, subst, sym, ◌∙◌}
use Rattle.osc_model.specs.{sends}
use Rattle.osc_run.specs.{ServerStep}
use Rattle.osc_server.specs.Inner.Parts.{IsQuiet}
use Rattle.osc_server.specs.{core}
use Rattle.osc_server.specs.State.{State}
use Rattle.osc_server.proofs.Notes.{nothing_goes, quiet_tick}
use Rattle.osc_server.proofs.StepKinds.{quietly}
use Rattle.osc_server.proofs.server.Server.on_tick.Goals as goal

pub invariant_of-self : goal.invariant_of-self
invariant_of-self c =
    (subst IsQuiet (sym c.on_tick-out.ensures.ticked) (quiet_tick c.args.now c.self.inside.endpoint c.self.invariant.0).stays, c.self.invariant.1)

pub returns-clause-kind : goal.returns-clause-kind
returns-clause-kind c =
    let before : State = record { tree = c.self.inside.tree; desk = c.self.inside.desk; open_scope = c.self.inside.open_scope; endpoint = c.self.inside.endpoint } in
    let after : State = record { tree = c.self.inside.tree; desk = c.self.inside.desk; open_scope = c.self.inside.open_scope; endpoint = c.on_tick-out.new.self } in
    subst (λ old. ServerStep (core old) c.args.now c.sending.result.notes (core after)) c.self.view_is
    (quietly before c.args.now c.sending.result after (ap (λ s. s.notes) c.sending.ensures) refl refl)

pub returns-clause-ticked : goal.returns-clause-ticked
returns-clause-ticked c =
    let none = (quiet_tick c.args.now c.self.inside.endpoint c.self.invariant.0).sends in
    record {
      sent = c.sending.ensures ∙ ap sends (nothing_goes c.on_tick-out.result.lost _ c.on_tick-out.result.out none c.on_tick-out.ensures.sent);
      kept = search rules;
    }
