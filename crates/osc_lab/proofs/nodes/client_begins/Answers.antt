use Rattle.std.proofs.Common.{refl}
use Rattle.osc_lab.specs.{task_of}
use Rattle.osc_lab.specs.Inner.Telling.{did, idle, network}
use Rattle.osc_lab.proofs.Labs.{always_err, always_ok, at_exit, began, hands_over, not_begun, nothing_learnt, stops_at_once}
use Rattle.osc_lab.proofs.Appended.{appends_none}
use Rattle.osc_lab.proofs.nodes.client_begins.Goals as goal

pub returns-in_err-reserve-clause-halts : goal.returns-in_err-reserve-clause-halts
returns-in_err-reserve-clause-halts g c = always_err c.from_residual.result _ (idle (record { node = refl; sent = refl; steps = c.reserve.ensures.steps }))

pub returns-in_err-reserve-clause-stopped : goal.returns-in_err-reserve-clause-stopped
returns-in_err-reserve-clause-stopped g c =
    at_exit c.from_residual.result c.in_err-reserve.field-0.0 _ c.from_residual.ensures.1
    (stops_at_once _ _ _ _ _ _ c.in_err-reserve.ensures.fault (nothing_learnt _ _ c.reserve.ensures.steps) (appends_none _))

pub returns-in_err-step-clause-halts : goal.returns-in_err-step-clause-halts
returns-in_err-step-clause-halts g c =
    always_err c.from_residual-in_err-step.result _ (idle (record { node = c.in_err-step.ensures.err; sent = refl; steps = c.reserve.ensures.steps }))

pub returns-in_err-step-clause-stopped : goal.returns-in_err-step-clause-stopped
returns-in_err-step-clause-stopped g c =
    at_exit c.from_residual-in_err-step.result c.in_err-step.field-0.0 _ c.from_residual-in_err-step.ensures.1
    (stops_at_once _ _ _ _ _ _ c.in_err-step.ensures.fault (nothing_learnt _ _ c.reserve.ensures.steps) (appends_none _))

pub returns-in_default-clause-begins : goal.returns-in_default-clause-begins
returns-in_default-clause-begins g c =
    let begun = c.in_ok-step.ensures.begins in
    let net = network g.P.Port.received g.P.Port.sent c.args.asked.who.cast.addresses.now in
    record {
      now = begun.0;
      draw = begun.1;
      gives = begun.2;
      did = not_begun net c.args.asked.who.number _ _ _ _ _ _ (task_of c.args.asked.line.now begun.0 begun.1) c.in_ok-step.field-0 c.args.port.now c.in_default.is begun.3
          c.reserve.ensures.steps;
    }

pub returns-in_err-note-clause-halts : goal.returns-in_err-note-clause-halts
returns-in_err-note-clause-halts g c =
    let begun = c.in_ok-step.ensures.begins in
    let net = network g.P.Port.received g.P.Port.sent c.args.asked.who.cast.addresses.now in
    always_err c.from_residual-in_err-note.result _ (did (record {
      now = begun.0;
      draw = begun.1;
      gives = begun.2;
      did = began net c.args.asked.who.number _ _ _ _ _ _ c.reserve.new.notes.steps (task_of c.args.asked.line.now begun.0 begun.1) c.in_ok-step.field-0 c.in-Some.step c.args.port.now _
          c.in-Some.is begun.3
          (hands_over net c.args.port.now c.send_out-fault.new.port c.in-Some.step.out c.as_slice.result.now c.send_out-fault.ensures.sent c.as_slice.ensures
          c.send_out-fault.ensures.not_received)
          c.note.ensures.noted c.reserve.ensures.steps;
    }))

pub returns-clause-begins : goal.returns-clause-begins
returns-clause-begins g c =
    let begun = c.in_ok-step.ensures.begins in
    let net = network g.P.Port.received g.P.Port.sent c.args.asked.who.cast.addresses.now in
    always_ok c.unless_lost.result _ (record {
      now = begun.0;
      draw = begun.1;
      gives = begun.2;
      did = began net c.args.asked.who.number _ _ _ _ _ _ c.reserve.new.notes.steps (task_of c.args.asked.line.now begun.0 begun.1) c.in_ok-step.field-0 c.in-Some.step c.args.port.now _
          c.in-Some.is begun.3
          (hands_over net c.args.port.now c.send_out-fault.new.port c.in-Some.step.out c.as_slice.result.now c.send_out-fault.ensures.sent c.as_slice.ensures
          c.send_out-fault.ensures.not_received)
          c.note.ensures.noted c.reserve.ensures.steps;
    })

pub returns-clause-halts : goal.returns-clause-halts
returns-clause-halts g c =
    let begun = c.in_ok-step.ensures.begins in
    let net = network g.P.Port.received g.P.Port.sent c.args.asked.who.cast.addresses.now in
    always_err c.unless_lost.result _ (did (record {
      now = begun.0;
      draw = begun.1;
      gives = begun.2;
      did = began net c.args.asked.who.number _ _ _ _ _ _ c.reserve.new.notes.steps (task_of c.args.asked.line.now begun.0 begun.1) c.in_ok-step.field-0 c.in-Some.step c.args.port.now _
          c.in-Some.is begun.3
          (hands_over net c.args.port.now c.send_out-fault.new.port c.in-Some.step.out c.as_slice.result.now c.send_out-fault.ensures.sent c.as_slice.ensures
          c.send_out-fault.ensures.not_received)
          c.note.ensures.noted c.reserve.ensures.steps;
    }))
