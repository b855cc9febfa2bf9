use Rattle.std.proofs.Common.{refl, sym}
use Rattle.osc_lab.specs.Inner.Telling.{stayed, took}
use Rattle.osc_lab.proofs.Labs.{always_err, at_exit, noted_later, nothing_learnt, stops_at_once, tells_as}
use Rattle.osc_lab.proofs.Appended.{appends_none}
use Rattle.osc_lab.proofs.nodes.client_turns_at.Goals as goal

pub returns-in_err-reserve-clause-halts : goal.returns-in_err-reserve-clause-halts
returns-in_err-reserve-clause-halts g c = always_err c.from_residual.result _ (stayed (record { node = refl; sent = refl; steps = c.reserve.ensures.steps }))

pub returns-in_err-reserve-clause-stopped : goal.returns-in_err-reserve-clause-stopped
returns-in_err-reserve-clause-stopped g c =
    at_exit c.from_residual.result c.in_err-reserve.field-0.0 _ c.from_residual.ensures.1
    (stops_at_once _ _ _ _ _ _ c.in_err-reserve.ensures.fault (nothing_learnt _ _ c.reserve.ensures.steps) (appends_none _))

pub returns-in_err-turned-clause-halts : goal.returns-in_err-turned-clause-halts
returns-in_err-turned-clause-halts g c =
    always_err c.from_residual-in_err-turned.result _
    (stayed (record { node = c.in_err-turned.ensures.err; sent = c.in_err-turned.ensures.not_sent; steps = c.reserve.ensures.steps }))

pub returns-in_err-turned-clause-stopped : goal.returns-in_err-turned-clause-stopped
returns-in_err-turned-clause-stopped g c =
    at_exit c.from_residual-in_err-turned.result c.in_err-turned.field-0.0 _ c.from_residual-in_err-turned.ensures.1
    (stops_at_once _ _ _ _ _ _ c.in_err-turned.ensures.fault (nothing_learnt _ _ c.reserve.ensures.steps) (appends_none _))

pub returns-in_err-note-clause-halts : goal.returns-in_err-note-clause-halts
returns-in_err-note-clause-halts g c =
    always_err c.from_residual-in_err-note.result _
    (took _
    (record {
      step = c.in_ok-turned.turned.step;
      took = c.in_ok-turned.ensures.takes;
      steps = noted_later _ _ _ _ c.note.ensures.noted c.reserve.ensures.steps;
    }))

pub returns-in_err-unless_lost-clause-halts : goal.returns-in_err-unless_lost-clause-halts
returns-in_err-unless_lost-clause-halts g c =
    always_err c.from_residual-in_err-unless_lost.result _
    (took _
    (record {
      step = c.in_ok-turned.turned.step;
      took = c.in_ok-turned.ensures.takes;
      steps = noted_later _ _ _ _ c.note.ensures.noted c.reserve.ensures.steps;
    }))

pub returns-clause-takes : goal.returns-clause-takes
returns-clause-takes g c = record {
  step = c.in_ok-turned.turned.step;
  took = c.in_ok-turned.ensures.takes;
  steps = noted_later _ _ _ _ c.note.ensures.noted c.reserve.ensures.steps;
}

pub returns-clause-told : goal.returns-clause-told
returns-clause-told g c = tells_as _ _ _ _ _ _ _ (sym (nothing_learnt _ _ c.reserve.ensures.steps)) refl c.in_ok-note.ensures.told
