use Rattle.std.proofs.Common.{◌≡◌, Some, refl, rules}
use Rattle.std.proofs.lemmas.Result.{IfOk-weaker, on_err_weaker}
use Rattle.std.proofs.lemmas.Option.{slice_get_read}
use Rattle.std.specs.Prelude.{slice_get}
use Rattle.osc_lab.specs.Inner.Telling.{network, ports_of}
use Rattle.osc_lab.proofs.Labs.{halts_at_proxy_port, halts_here, proxy_leads, proxy_turned}
use Rattle.osc_lab.proofs.nodes.LabNodes.proxy_turn.Goals as goal

pub noted_turn-requires : goal.noted_turn-requires
noted_turn-requires g c = λ result. refl

pub returns-in_default-clause-leads : goal.returns-in_default-clause-leads
returns-in_default-clause-leads g c = halts_here (network g.P.Port.received g.P.Port.sent c.args.cast.addresses.now) _

pub returns-in_default-proxy_mut-clause-leads : goal.returns-in_default-proxy_mut-clause-leads
returns-in_default-proxy_mut-clause-leads g c =
    let old = c.args.self.now in
    let means = c.args.means.now in
    let look = c.in-Some.ensures.item in
    let had : slice_get means.ports.proxies.items c.args.number ≡ Some c.in-Some.port.now = slice_get_read means.ports.proxies.items _ c.args.number c.in-Some.port.now refl look.3.0 look.1 in
    halts_at_proxy_port (network g.P.Port.received g.P.Port.sent c.args.cast.addresses.now) old.minted.items old.nodes old.notes.steps (ports_of means.ports) means.supply c.args.number
    c.in-Some.port.now had

pub returns-clause-takes : goal.returns-clause-takes
returns-clause-takes g c =
    let old = c.args.self.now in
    let ports = c.args.means.now.ports in
    let net = network g.P.Port.received g.P.Port.sent c.args.cast.addresses.now in
    let there : slice_get old.nodes.proxies c.args.number ≡ Some c.in-Some-proxy_mut.placed.now = search rules in
    let look = c.in-Some.ensures.item in
    let had : slice_get ports.proxies.items c.args.number ≡ Some c.in-Some.port.now = slice_get_read ports.proxies.items _ c.args.number c.in-Some.port.now refl look.3.0 look.1 in
    IfOk-weaker c.noted_turn.result _ _
    (proxy_turned net old.minted.items old.nodes old.notes.steps c.noted_turn.new.notes.steps (ports_of ports) c.args.means.now.supply c.noted_turn.new.supply c.args.number
    c.in-Some-proxy_mut.placed.now there c.noted_turn.new.node c.in-Some.port.now c.noted_turn.new.port had)
    c.noted_turn.ensures.takes

pub returns-clause-leads : goal.returns-clause-leads
returns-clause-leads g c =
    let old = c.args.self.now in
    let ports = c.args.means.now.ports in
    let net = network g.P.Port.received g.P.Port.sent c.args.cast.addresses.now in
    let there : slice_get old.nodes.proxies c.args.number ≡ Some c.in-Some-proxy_mut.placed.now = search rules in
    let look = c.in-Some.ensures.item in
    let had : slice_get ports.proxies.items c.args.number ≡ Some c.in-Some.port.now = slice_get_read ports.proxies.items _ c.args.number c.in-Some.port.now refl look.3.0 look.1 in
    on_err_weaker c.noted_turn.result
    (proxy_leads net old.minted.items old.nodes old.notes.steps c.noted_turn.new.notes.steps (ports_of ports) c.args.means.now.supply c.noted_turn.new.supply c.args.number
    c.in-Some-proxy_mut.placed.now there c.noted_turn.new.node c.in-Some.port.now c.noted_turn.new.port had)
    c.noted_turn.ensures.halts
