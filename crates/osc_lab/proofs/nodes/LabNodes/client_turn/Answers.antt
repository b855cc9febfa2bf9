use Rattle.std.proofs.Common.{◌≡◌, Some, refl, rules}
use Rattle.std.proofs.lemmas.Result.{IfOk-weaker, on_err_weaker}
use Rattle.std.proofs.lemmas.Option.{slice_get_read}
use Rattle.std.specs.Prelude.{slice_get}
use Rattle.osc_lab.specs.Inner.Telling.{network, ports_of}
use Rattle.osc_lab.proofs.Appended.{appends_none}
use Rattle.osc_lab.proofs.Labs.{client_leads, client_turned, halts_at_client_port, halts_here, stops_at_once}
use Rattle.osc_lab.proofs.nodes.LabNodes.client_turn.Goals as goal

pub returns-in_default-clause-leads : goal.returns-in_default-clause-leads
returns-in_default-clause-leads g c = halts_here (network g.P.Port.received g.P.Port.sent c.args.who.cast.addresses.now) _

pub returns-in_default-clause-stopped : goal.returns-in_default-clause-stopped
returns-in_default-clause-stopped g c = stops_at_once _ _ _ _ _ _ tt refl (appends_none _)

pub returns-in_default-client_mut-clause-leads : goal.returns-in_default-client_mut-clause-leads
returns-in_default-client_mut-clause-leads g c =
    let old = c.args.self.now in
    let means = c.args.means.now in
    let look = c.in-Some.ensures.item in
    let had : slice_get means.ports.clients.items c.args.who.number ≡ Some c.in-Some.port.now =
    slice_get_read means.ports.clients.items _ c.args.who.number c.in-Some.port.now refl look.3.0 look.1 in
    halts_at_client_port (network g.P.Port.received g.P.Port.sent c.args.who.cast.addresses.now) old.minted.items old.nodes old.notes.steps (ports_of means.ports) means.supply
    c.args.who.number c.in-Some.port.now had

pub returns-in_default-client_mut-clause-stopped : goal.returns-in_default-client_mut-clause-stopped
returns-in_default-client_mut-clause-stopped g c = stops_at_once _ _ _ _ _ _ tt refl (appends_none _)

pub returns-clause-takes : goal.returns-clause-takes
returns-clause-takes g c =
    let old = c.args.self.now in
    let means = c.args.means.now in
    let net = network g.P.Port.received g.P.Port.sent c.args.who.cast.addresses.now in
    let there : slice_get old.nodes.clients c.args.who.number ≡ Some c.in-Some-client_mut.placed.now = search rules in
    let look = c.in-Some.ensures.item in
    let had : slice_get means.ports.clients.items c.args.who.number ≡ Some c.in-Some.port.now = slice_get_read means.ports.clients.items _ c.args.who.number c.in-Some.port.now refl look.3.0 look.1 in
    IfOk-weaker c.client_turns_at.result _ _
    (client_turned net old.minted.items old.nodes old.notes.steps c.client_turns_at.new.notes.steps (ports_of means.ports) means.supply c.client_turns_at.new.supply c.args.who.number
    c.in-Some-client_mut.placed.now there c.client_turns_at.new.client c.in-Some.port.now c.client_turns_at.new.port had)
    c.client_turns_at.ensures.takes

pub returns-clause-leads : goal.returns-clause-leads
returns-clause-leads g c =
    let old = c.args.self.now in
    let means = c.args.means.now in
    let net = network g.P.Port.received g.P.Port.sent c.args.who.cast.addresses.now in
    let there : slice_get old.nodes.clients c.args.who.number ≡ Some c.in-Some-client_mut.placed.now = search rules in
    let look = c.in-Some.ensures.item in
    let had : slice_get means.ports.clients.items c.args.who.number ≡ Some c.in-Some.port.now = slice_get_read means.ports.clients.items _ c.args.who.number c.in-Some.port.now refl look.3.0 look.1 in
    on_err_weaker c.client_turns_at.result
    (client_leads net old.minted.items old.nodes old.notes.steps c.client_turns_at.new.notes.steps (ports_of means.ports) means.supply c.client_turns_at.new.supply c.args.who.number
    c.in-Some-client_mut.placed.now there c.client_turns_at.new.client c.in-Some.port.now c.client_turns_at.new.port had)
    c.client_turns_at.ensures.halts
