use Rattle.std.proofs.Common.{◌≢◌, false, Some, ◌∙◌, ap, refl, sym, subst}
use Rattle.osc_authz.specs.{KeepsPlace}
use Rattle.osc_client.specs.{Begins, core}
use Rattle.osc_client.specs.State.{State as Client}
use Rattle.osc_run.specs.{ClientStep}
use Rattle.osc_model.specs.declared.step.Step.{Step}
use Rattle.osc_server.specs.State.{State as Server}
use Rattle.osc_device.specs.{Carries}
use Rattle.osc_model.specs.declared.step.ClientResult.TheVariants.{Refused}
use Rattle.osc_device.proofs.Granted.{never_too_long}
use Rattle.osc_device.proofs.Carried.{begun_straight}
use Rattle.osc_device.proofs.Going.{device}
use Rattle.osc_device.proofs.device.DeviceDeviceCalls.open.Goals as goal

pub returns : goal.returns
returns g c =
    let own = ap (λ d. d.own) c.self.view_is in
    let server = ap (λ d. d.server) c.self.view_is in
    let begins = subst (λ (begun : Step). Begins c.args.self.now.own c.args.now c.args.draws.own begun c.exchange.new.self) (sym c.carry.ensures.begun)
    (subst (λ (old : Client). Begins old c.args.now c.args.draws.own c.in_ok-begun.begun c.exchange.new.self) own c.in_ok-begun.ensures.begun) in
    let kind = subst (λ (begun : Step). ClientStep false (core c.args.self.now.own) begun.notes (core c.exchange.new.self)) (sym c.carry.ensures.begun)
    (subst (λ (old : Client). ClientStep false (core old) c.in_ok-begun.begun.notes (core c.exchange.new.self)) own c.in_ok-begun.ensures.kind) in
    let carries = subst (λ (old : Server). Carries g.A.Ciphers.is_sealing (device old c.exchange.new.self) c.args.now c.args.draws.server c.carry.result c.carry.new.self)
    server c.carry.ensures.carries in (
      record {
        posting = c.exchange.new.self;
        begins = begins;
        kind = kind;
        carries = carries;
        made = λ claims entries may whole.
            c.a_context_is_made.ensures c.args.self.now c.carry.new.self c.args.now c.args.draws.own c.args.draws.server claims entries c.exchange.new.self
            c.carry.result (sym (ap (λ k. k.origin) own) ∙ c.self.invariant.0, sym (ap (λ k. k.next_hop) own) ∙ c.self.invariant.1) c.has_lawful_parts.ensures may whole c.is_drawn.ensures begins carries;
        place = λ claims entries may whole.
            c.a_context_is_made.ensures c.args.self.now c.carry.new.self c.args.now c.args.draws.own c.args.draws.server claims entries c.exchange.new.self
            c.carry.result (sym (ap (λ k. k.origin) own) ∙ c.self.invariant.0, sym (ap (λ k. k.next_hop) own) ∙ c.self.invariant.1) c.has_lawful_parts.ensures
            (c.a_place_is_kept.ensures c.args.self.now c.args.now c.args.draws.own claims entries
            (subst (λ (old : Server). KeepsPlace old.desk.rules.reserved old.desk.table) server c.keeps_its_place.ensures) may)
            whole c.is_drawn.ensures begins carries;
        fits = subst (λ (begun : Step). begun.notes.result ≢ Some (Refused 14)) (sym c.carry.ensures.begun)
            (never_too_long c.self.inside.own c.exchange.new.self c.args.now c.args.draws.own c.in_ok-begun.begun c.is_drawn-2.ensures c.self.invariant.2
            c.in_ok-begun.ensures.begun.exchanges);
        run = c.runs_go_on.ensures c.args.self.now (device c.args.self.now.server c.exchange.new.self) c.carry.new.self c.args.now c.args.draws.server c.carry.result
            kind refl carries;
      },
      tt,
    )

pub invariant_of-self-2 : goal.invariant_of-self-2
invariant_of-self-2 g c =
    begun_straight c.self.inside.own c.args.now c.args.draws.own c.in_ok-begun.begun c.exchange.new.self c.in_ok-begun.ensures.begun.exchanges c.self.invariant
