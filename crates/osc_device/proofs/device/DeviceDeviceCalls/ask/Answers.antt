use Rattle.std.proofs.Common.{false, ◌∙◌, ap, refl, sym, subst}
use Rattle.osc_client.specs.{Requests, Asked, core}
use Rattle.osc_client.specs.State.{State as Client}
use Rattle.osc_run.specs.{ClientStep}
use Rattle.osc_model.specs.declared.step.Step.{Step}
use Rattle.osc_rounds.specs.{IsLawfulServer}
use Rattle.osc_server.specs.State.{State as Server}
use Rattle.osc_device.specs.{AsksItsServer, Carries, asked_at}
use Rattle.osc_device.proofs.Carried.{asked_straight}
use Rattle.osc_device.proofs.Going.{device}
use Rattle.osc_device.proofs.device.DeviceDeviceCalls.ask.Goals as goal

pub returns : goal.returns
returns g c =
    let own = ap (λ d. d.own) c.self.view_is in
    let server = ap (λ d. d.server) c.self.view_is in
    let asked : Asked = record { at = c.args.now; draw = c.args.draws.own; request = c.args.request.now } in
    let asks : AsksItsServer g.A.Ciphers.is_sealing g.A.Ciphers.TAG c.args.self.now (asked_at c.args.now c.args.draws c.args.request.now) c.carry.result c.carry.new.self =
    record {
      own = c.ask.new.self;
      requests = subst (λ (begun : Step). Requests g.A.Ciphers.is_sealing g.A.Ciphers.TAG c.args.self.now.own asked begun c.ask.new.self) (sym c.carry.ensures.begun)
          (subst (λ (old : Client). Requests g.A.Ciphers.is_sealing g.A.Ciphers.TAG old asked c.in_ok-begun.begun c.ask.new.self) own c.in_ok-begun.ensures.asked);
      kind = subst (λ (begun : Step). ClientStep false (core c.args.self.now.own) begun.notes (core c.ask.new.self)) (sym c.carry.ensures.begun)
          (subst (λ (old : Client). ClientStep false (core old) c.in_ok-begun.begun.notes (core c.ask.new.self)) own c.in_ok-begun.ensures.kind);
      carries = subst (λ (old : Server). Carries g.A.Ciphers.is_sealing (device old c.ask.new.self) c.args.now c.args.draws.server c.carry.result c.carry.new.self) server c.carry.ensures.carries;
    } in
    let between = device c.args.self.now.server c.ask.new.self in (
      record {
        asks = asks;
        answered = λ context held ready whole.
            c.a_request_is_answered.ensures c.args.self.now c.carry.new.self asked c.args.draws.server context held c.ask.new.self c.carry.result
            (sym (ap (λ k. k.origin) own) ∙ c.self.invariant.0, sym (ap (λ k. k.next_hop) own) ∙ c.self.invariant.1)
            (subst IsLawfulServer server c.is_lawful.ensures) c.has_lawful_parts.ensures ready whole
            asks.requests asks.carries;
        run = c.runs_go_on.ensures c.args.self.now between c.carry.new.self c.args.now c.args.draws.server c.carry.result asks.kind refl asks.carries;
        entry = c.runs_keep_their_promises.ensures.entered c.args.self.now between c.carry.new.self c.args.now c.args.draws.server c.carry.result asks.kind refl
            asks.carries;
      },
      tt,
    )

pub invariant_of-self-2 : goal.invariant_of-self-2
invariant_of-self-2 g c =
    let asked : Asked = record { at = c.args.now; draw = c.args.draws.own; request = c.args.request.now } in
    asked_straight g.A.Ciphers.is_sealing g.A.Ciphers.TAG c.self.inside.own asked c.in_ok-begun.begun c.ask.new.self
    c.in_ok-begun.ensures.asked.asks c.self.invariant
