use Rattle.std.proofs.lemmas.Result.{IfErr-weaker, on_ok_weaker}
use Rattle.osc_lab.specs.Inner.Telling.{network}
use Rattle.osc_lab.proofs.LabRuns.{begin_leads, leads_more, taken_leads}
use Rattle.osc_lab.proofs.Labs.{always_err, at_exit, halts_later, halts_then, line_told, stops_more, stops_then, tells_more}
use Rattle.osc_lab.proofs.run.perform.Goals as goal

pub returns-in_err-take_whole_turns-clause-leads : goal.returns-in_err-take_whole_turns-clause-leads
returns-in_err-take_whole_turns-clause-leads g c =
    let net = network g.P.Port.received g.P.Port.sent c.args.who.cast.addresses.now in
    always_err c.from_residual-in_err-take_whole_turns.result _
    (halts_later net _ _ _ (begin_leads net c.args.asked.now c.args.who.number _ _ c.in_ok-begin.ensures.begins) c.in_err-take_whole_turns.ensures.leads)

pub returns-in_err-take_whole_turns-clause-stopped : goal.returns-in_err-take_whole_turns-clause-stopped
returns-in_err-take_whole_turns-clause-stopped g c =
    at_exit c.from_residual-in_err-take_whole_turns.result c.in_err-take_whole_turns.field-0.0 _ c.from_residual-in_err-take_whole_turns.ensures.1
    (stops_more _ _ _ _ _ _ _ _ c.in_ok-begin.ensures.told c.in_err-take_whole_turns.ensures.stopped)

pub returns-clause-tells : goal.returns-clause-tells
returns-clause-tells g c =
    on_ok_weaker c.tell_open.result
    (line_told (network g.P.Port.received g.P.Port.sent c.args.who.cast.addresses.now) (record { clients = c.args.who.cast.clients.now; turns = c.args.turns }) c.args.asked.now
    c.args.who.number _ _ _ _ _ _ _ _ _ c.in_ok-begin.ensures.begins c.in_ok-begin.ensures.told c.in_ok-take_whole_turns.ensures.takes c.in_ok-take_whole_turns.ensures.told
    c.name_of_number.ensures c.is_waiting.ensures)
    c.tell_open.ensures.told

pub returns-clause-leads : goal.returns-clause-leads
returns-clause-leads g c =
    let net = network g.P.Port.received g.P.Port.sent c.args.who.cast.addresses.now in
    always_err c.tell_open.result _
    (halts_then net _ _
    (leads_more net _ _ _ (begin_leads net c.args.asked.now c.args.who.number _ _ c.in_ok-begin.ensures.begins)
    (taken_leads net c.args.who.number c.args.turns _ _ c.in_ok-take_whole_turns.ensures.takes)))

pub returns-clause-stopped : goal.returns-clause-stopped
returns-clause-stopped g c =
    IfErr-weaker c.tell_open.result _ _
    (λ ended untold. stops_then ended _ _ _ _ _ _ (tells_more _ _ _ _ _ _ _ c.in_ok-begin.ensures.told c.in_ok-take_whole_turns.ensures.told) untold)
    c.tell_open.ensures.untold
