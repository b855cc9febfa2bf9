use Rattle.std.proofs.Common.{◌≤◌, ◌+◌, length, subst}
use Rattle.osc_proxy.specs.{count, AreOfExchanges}
use Rattle.osc_proxy.specs.State.{State}
use Rattle.osc_proxy.proofs.Ends.{each_after, few_sent, none_overdue, requests_are}
use Rattle.osc_proxy.proofs.proxy.Proxy.on_tick.Goals as goal

pub invariant_of-self : goal.invariant_of-self
invariant_of-self c =
    let inside = c.self.inside in
    let old : State = record { targets = inside.targets; exchanges = inside.exchanges; endpoint = inside.endpoint } in
    let new : State = record { targets = inside.targets; exchanges = c.tick-step.new.exchanges; endpoint = c.tick-step.new.endpoint } in
    each_after old new c.args.now c.args.draw.now c.tick-step.result (c.tick-step.ensures inside.targets) c.self.invariant

pub returns-clause-few : goal.returns-clause-few
returns-clause-few c =
    let inside = c.self.inside in
    let old : State = record { targets = inside.targets; exchanges = inside.exchanges; endpoint = inside.endpoint } in
    let new : State = record { targets = inside.targets; exchanges = c.tick-step.new.exchanges; endpoint = c.tick-step.new.endpoint } in
    subst (λ (s : State). length c.tick-step.result.out ≤ length s.endpoint.sending + count s.exchanges) c.self.view_is
    (few_sent c.ticks_send_few.ensures old new c.args.now c.args.draw.now c.tick-step.result (c.tick-step.ensures inside.targets))

pub returns-clause-requests : goal.returns-clause-requests
returns-clause-requests c =
    let inside = c.self.inside in
    let old : State = record { targets = inside.targets; exchanges = inside.exchanges; endpoint = inside.endpoint } in
    let new : State = record { targets = inside.targets; exchanges = c.tick-step.new.exchanges; endpoint = c.tick-step.new.endpoint } in
    subst (λ (s : State). AreOfExchanges s c.args.now c.tick-step.result.out) c.self.view_is
    (requests_are old new c.args.now c.args.draw.now c.tick-step.result (c.tick-step.ensures inside.targets) c.self.invariant)

pub returns-clause-none_over : goal.returns-clause-none_over
returns-clause-none_over c =
    let inside = c.self.inside in
    let old : State = record { targets = inside.targets; exchanges = inside.exchanges; endpoint = inside.endpoint } in
    let new : State = record { targets = inside.targets; exchanges = c.tick-step.new.exchanges; endpoint = c.tick-step.new.endpoint } in
    none_overdue old new c.args.now c.args.draw.now c.tick-step.result (c.tick-step.ensures inside.targets)
