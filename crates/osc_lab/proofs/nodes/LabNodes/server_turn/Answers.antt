use Rattle.std.proofs.Common.{◌≡◌, refl, rules}
use Rattle.std.proofs.lemmas.Result.{IfOk-weaker, on_err_weaker}
use Rattle.osc_lab.specs.Inner.Telling.{network, ports_of}
use Rattle.osc_lab.proofs.Labs.{server_leads, server_turned}
use Rattle.osc_lab.proofs.nodes.LabNodes.server_turn.Goals as goal

pub noted_turn-requires : goal.noted_turn-requires
noted_turn-requires g c = λ result. refl

pub returns-clause-takes : goal.returns-clause-takes
returns-clause-takes g c =
    let old = c.args.self.now in
    let means = c.args.means.now in
    let net = network g.P.Port.received g.P.Port.sent c.args.cast.addresses.now in
    let there : c.server_mut-node.result.now ≡ old.nodes.server = search rules in
    IfOk-weaker c.noted_turn.result _ _
    (server_turned net old.minted.items old.nodes old.notes.steps c.noted_turn.new.notes.steps (ports_of means.ports) means.supply c.noted_turn.new.supply c.server_mut-node.result.now
    there c.noted_turn.new.node c.noted_turn.new.port)
    c.noted_turn.ensures.takes

pub returns-clause-leads : goal.returns-clause-leads
returns-clause-leads g c =
    let old = c.args.self.now in
    let means = c.args.means.now in
    let net = network g.P.Port.received g.P.Port.sent c.args.cast.addresses.now in
    let there : c.server_mut-node.result.now ≡ old.nodes.server = search rules in
    on_err_weaker c.noted_turn.result
    (server_leads net old.minted.items old.nodes old.notes.steps c.noted_turn.new.notes.steps (ports_of means.ports) means.supply c.noted_turn.new.supply c.server_mut-node.result.now
    there c.noted_turn.new.node c.noted_turn.new.port)
    c.noted_turn.ensures.halts
