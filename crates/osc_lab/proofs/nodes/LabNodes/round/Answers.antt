use Rattle.std.proofs.Common.{◌∙◌, ◌||◌, Bool, ap}
use Rattle.osc_world.specs.declared.nodes.Whose.TheVariants as whose
use Rattle.osc_lab.specs.Inner.Telling.{network}
use Rattle.osc_lab.proofs.Appended.{appends_none}
use Rattle.osc_lab.proofs.LabRuns.{leads_more, turn_leads, turns_lead}
use Rattle.osc_lab.proofs.Labs.{always_err, at_exit, halts_later, stops_at_once}
use Rattle.osc_lab.proofs.nodes.LabNodes.round.Goals as goal

pub returns-in_err-server-clause-stopped : goal.returns-in_err-server-clause-stopped
returns-in_err-server-clause-stopped g c =
    at_exit c.from_residual.result c.in_err-server.field-0.0 _ c.from_residual.ensures.1
    (stops_at_once _ _ _ _ _ _ c.in_err-server.ensures.fault c.in_err-server.ensures.learns (appends_none _))

pub returns-in_err-proxies-clause-leads : goal.returns-in_err-proxies-clause-leads
returns-in_err-proxies-clause-leads g c =
    let net = network g.P.Port.received g.P.Port.sent c.args.cast.addresses.now in
    always_err c.from_residual-in_err-proxies.result _ (halts_later net _ _ _ (turn_leads net _ _ _ _ c.in_ok-server.ensures.takes) c.in_err-proxies.ensures.leads)

pub returns-in_err-proxies-clause-stopped : goal.returns-in_err-proxies-clause-stopped
returns-in_err-proxies-clause-stopped g c =
    at_exit c.from_residual-in_err-proxies.result c.in_err-proxies.field-0.0 _ c.from_residual-in_err-proxies.ensures.1
    (stops_at_once _ _ _ _ _ _ c.in_err-proxies.ensures.fault (c.in_err-proxies.ensures.learns ∙ c.in_ok-server.ensures.learns) (appends_none _))

pub returns-in_err-clients-clause-leads : goal.returns-in_err-clients-clause-leads
returns-in_err-clients-clause-leads g c =
    let net = network g.P.Port.received g.P.Port.sent c.args.cast.addresses.now in
    always_err c.from_residual-in_err-clients.result _
    (halts_later net _ _ _
    (leads_more net _ _ _ (turn_leads net _ _ _ _ c.in_ok-server.ensures.takes) (turns_lead net whose.Proxy _ _ _ _ c.in_ok-proxies.ensures.take)) c.in_err-clients.ensures.leads)

pub returns-clause-takes : goal.returns-clause-takes
returns-clause-takes g c = record {
  served = _;
  forwarded = _;
  busy_server = c.in_ok-server.server;
  busy_proxies = c.in_ok-proxies.proxies;
  busy_clients = c.in_ok-clients.clients;
  server = c.in_ok-server.ensures.takes;
  proxies = c.in_ok-proxies.ensures.take;
  clients = c.in_ok-clients.ensures.take;
  is_busy = c.either.ensures ∙ ap (λ (others : Bool). c.in_ok-server.server || others) c.either-others.ensures;
}
