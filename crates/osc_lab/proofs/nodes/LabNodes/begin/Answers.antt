use Rattle.std.proofs.Common.{◌≡◌, Some, refl, rules}
use Rattle.std.proofs.lemmas.Result.{on_err_weaker, on_ok_weaker}
use Rattle.std.proofs.lemmas.Option.{slice_get_read}
use Rattle.std.specs.Prelude.{slice_get}
use Rattle.osc_lab.specs.Inner.Telling.{network, ports_of}
use Rattle.osc_lab.proofs.Appended.{appends_none}
use Rattle.osc_lab.proofs.Labs.{began_leads, client_began, halts_at_client, stops_at_once}
use Rattle.osc_lab.proofs.nodes.LabNodes.begin.Goals as goal

pub returns-in_default-get_mut-clause-leads : goal.returns-in_default-get_mut-clause-leads
returns-in_default-get_mut-clause-leads g c =
    let old = c.args.self.now in
    let means = c.args.means.now in
    let there : slice_get old.nodes.clients c.args.who.number ≡ Some c.in-Some.placed.now = search rules in
    halts_at_client (network g.P.Port.received g.P.Port.sent c.args.who.cast.addresses.now) old.minted.items old.nodes old.notes.steps (ports_of means.ports) means.supply
    c.args.who.number c.in-Some.placed.now there

pub returns-in_default-get_mut-clause-stopped : goal.returns-in_default-get_mut-clause-stopped
returns-in_default-get_mut-clause-stopped g c = stops_at_once _ _ _ _ _ _ tt refl (appends_none _)

pub returns-clause-begins : goal.returns-clause-begins
returns-clause-begins g c =
    let old = c.args.self.now in
    let means = c.args.means.now in
    let net = network g.P.Port.received g.P.Port.sent c.args.who.cast.addresses.now in
    let there : slice_get old.nodes.clients c.args.who.number ≡ Some c.in-Some.placed.now = search rules in
    let look = c.in-Some-get_mut.ensures.item in
    let had : slice_get means.ports.clients.items c.args.who.number ≡ Some c.in-Some-get_mut.port.now = slice_get_read means.ports.clients.items _ c.args.who.number c.in-Some-get_mut.port.now refl look.3.0 look.1 in
    on_ok_weaker c.client_begins.result
    (client_began net old.minted.items old.nodes old.notes.steps c.client_begins.new.notes.steps (ports_of means.ports) means.supply c.client_begins.new.supply c.args.who.number
    c.in-Some.placed.now there c.client_begins.new.client c.in-Some-get_mut.port.now c.client_begins.new.port had c.args.asked.now)
    c.client_begins.ensures.begins

pub returns-clause-leads : goal.returns-clause-leads
returns-clause-leads g c =
    let old = c.args.self.now in
    let means = c.args.means.now in
    let net = network g.P.Port.received g.P.Port.sent c.args.who.cast.addresses.now in
    let there : slice_get old.nodes.clients c.args.who.number ≡ Some c.in-Some.placed.now = search rules in
    let look = c.in-Some-get_mut.ensures.item in
    let had : slice_get means.ports.clients.items c.args.who.number ≡ Some c.in-Some-get_mut.port.now = slice_get_read means.ports.clients.items _ c.args.who.number c.in-Some-get_mut.port.now refl look.3.0 look.1 in
    on_err_weaker c.client_begins.result
    (began_leads net old.minted.items old.nodes old.notes.steps c.client_begins.new.notes.steps (ports_of means.ports) means.supply c.client_begins.new.supply c.args.who.number
    c.in-Some.placed.now there c.client_begins.new.client c.in-Some-get_mut.port.now c.client_begins.new.port had c.args.asked.now)
    c.client_begins.ensures.halts
