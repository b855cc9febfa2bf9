use Rattle.std.proofs.Common.{refl}
use Rattle.osc_lab.specs.Inner.Telling.{stayed, took}
use Rattle.osc_lab.proofs.Labs.{always_err, noted_steps, nothing_learnt, taught_nothing}
use Rattle.osc_lab.proofs.nodes.noted_turn.Goals as goal

pub returns-in_err-reserve-clause-halts : goal.returns-in_err-reserve-clause-halts
returns-in_err-reserve-clause-halts g c = always_err c.from_residual.result _ (stayed (record { node = refl; sent = refl; steps = c.reserve.ensures.steps }))

pub returns-in_err-reserve-clause-learns : goal.returns-in_err-reserve-clause-learns
returns-in_err-reserve-clause-learns g c = nothing_learnt _ _ c.reserve.ensures.steps

pub returns-in_err-turned-clause-halts : goal.returns-in_err-turned-clause-halts
returns-in_err-turned-clause-halts g c =
    always_err c.from_residual-in_err-turned.result _
    (stayed (record { node = c.in_err-turned.ensures.err; sent = c.in_err-turned.ensures.not_sent; steps = c.reserve.ensures.steps }))

pub returns-in_err-turned-clause-learns : goal.returns-in_err-turned-clause-learns
returns-in_err-turned-clause-learns g c = nothing_learnt _ _ c.reserve.ensures.steps

pub returns-in_err-unless_lost-clause-halts : goal.returns-in_err-unless_lost-clause-halts
returns-in_err-unless_lost-clause-halts g c =
    always_err c.from_residual-in_err-unless_lost.result _
    (took _
    (record {
      step = c.in_ok-turned.turned.step;
      took = c.in_ok-turned.ensures.takes;
      steps = noted_steps c.add.new.self c.noted_as.result _ c.reserve.new.notes.steps c.args.notes.now.steps _ c.add.ensures c.noted_as.ensures c.reserve.ensures.steps;
    }))

pub returns-in_err-unless_lost-clause-learns : goal.returns-in_err-unless_lost-clause-learns
returns-in_err-unless_lost-clause-learns g c =
    taught_nothing c.args.actor c.in_ok-turned.turned.step.notes _ c.args.notes.now.steps _ c.requires
    (noted_steps c.add.new.self c.noted_as.result _ c.reserve.new.notes.steps c.reserve.new.notes.steps _ c.add.ensures c.noted_as.ensures refl) c.reserve.ensures.steps

pub returns-clause-takes : goal.returns-clause-takes
returns-clause-takes g c = record {
  step = c.in_ok-turned.turned.step;
  took = c.in_ok-turned.ensures.takes;
  steps = noted_steps c.add.new.self c.noted_as.result _ c.reserve.new.notes.steps c.args.notes.now.steps _ c.add.ensures c.noted_as.ensures c.reserve.ensures.steps;
}

pub returns-clause-learns : goal.returns-clause-learns
returns-clause-learns g c =
    taught_nothing c.args.actor c.in_ok-turned.turned.step.notes _ c.args.notes.now.steps _ c.requires
    (noted_steps c.add.new.self c.noted_as.result _ c.reserve.new.notes.steps c.reserve.new.notes.steps _ c.add.ensures c.noted_as.ensures refl) c.reserve.ensures.steps
