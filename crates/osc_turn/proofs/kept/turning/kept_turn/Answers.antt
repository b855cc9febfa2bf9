-- What holds of a turn, by how far it came.
use Rattle.std.proofs.Common.{◌∙◌, ◌++◌, ◌∷◌, [], List, ap, refl, subst, sym}
use Rattle.std.specs.List.{flat_map}
use Rattle.osc_turn.specs.{BatchState, Begins, grown, running}
use Rattle.osc_turn.specs.Kept.Turns.{Stands}
use Rattle.osc_turn.specs.declared.turning.Stepped.{Stepped}
use Rattle.osc_turn.proofs.kept.Grown.{grown_none}
use Rattle.osc_turn.proofs.kept.TurnLemmas.{does_turn, drops_turn, fails_node, fails_turn, first_made, first_step_is, misses_turn}
use Rattle.osc_turn.proofs.kept.turning.kept_turn.Goals as goal

pub returns-in-Err-clause-stands : goal.returns-in-Err-clause-stands
returns-in-Err-clause-stands g c keeps = ([], grown_none _, Stands.told [] keeps)

pub returns-in-Err-first_step-clause-stands : goal.returns-in-Err-first_step-clause-stands
returns-in-Err-first_step-clause-stands g c keeps =
    let same = fails_node g.N.Node.acts g.N.Node.is_step c.in-Ok.now c.in-Err-first_step.error _ _ _ _ _ _ c.in-Err-first_step.ensures.fails in
    ([], c.first_step.ensures.not_sent ∙ grown_none _, Stands.told [] (subst (λ (n : g.row.N.Denot). g.K.KeepsSteps.keeps c.args.kept.now.keeper n) (sym same) keeps))

pub returns-in-Err-first_step-clause-lost : goal.returns-in-Err-first_step-clause-lost
returns-in-Err-first_step-clause-lost g c =
    drops_turn g.N.Node.acts g.N.Node.is_step _ (running c.args.kept.now.node c.args.pace.now.busy_since c.moment.new.self) c.in-Ok.now _ c.in-Err-first_step.error _
    _ _ _ _ _ _ _ (record { reads = c.in-Ok.ensures.reads; generator = c.moment.ensures.generator; node = refl; busy = refl }) c.begin.ensures
    c.in-Err-first_step.ensures.fails c.first_step.ensures.not_sent refl

pub returns-in-Err-first_step-clause-failed : goal.returns-in-Err-first_step-clause-failed
returns-in-Err-first_step-clause-failed g c =
    fails_turn g.N.Node.acts g.N.Node.is_step _ (running c.args.kept.now.node c.args.pace.now.busy_since c.moment.new.self) c.in-Ok.now c.in-Err-first_step.error _
    _ _ _ _ _ _ _ (record { reads = c.in-Ok.ensures.reads; generator = c.moment.ensures.generator; node = refl; busy = refl })
    c.in-Err-first_step.ensures.fails c.first_step.ensures.not_sent (λ same i. record { node = same i; keeper = c.args.kept.now.keeper })

pub returns-in-Ok-keep_steps-clause-done : goal.returns-in-Ok-keep_steps-clause-done
returns-in-Ok-keep_steps-clause-done g c =
    let acts = g.N.Node.acts in
    let is_step = g.N.Node.is_step in
    let begun = running c.args.kept.now.node c.args.pace.now.busy_since c.moment.new.self in
    let mid = running c.first_step.new.node c.first_step.new.pace.busy_since c.first_step.new.supply in
    let stepped = c.in-Ok-first_step.stepped in
    let begins : Begins (running c.args.kept.now.node c.args.pace.now.busy_since c.args.supply.now) c.in-Ok.now begun =
    record { reads = c.in-Ok.ensures.reads; generator = c.moment.ensures.generator; node = refl; busy = refl } in
    let is = c.push.ensures ∙ ap (λ (b : BatchState). record b { steps = b.steps ++ stepped ∷ [] }) c.begin.ensures in
    let made = first_made acts is_step _ begun mid c.in-Ok.now c.push.new.self stepped _ _ begins is c.in-Ok-first_step.ensures.made in
    does_turn acts is_step _ begun mid c.in-Ok.now c.push.new.self stepped _ _ begins is c.in-Ok-first_step.ensures.made
    (record { ended = c.in-Ok-keep_steps.ended; fault = c.send_steps.result }) c.keep_steps.new.batch _ (g.P.Port.received c.keep_steps.new.port) _
    _ (g.P.Port.sent c.keep_steps.new.port) _ _ (g.P.Port.failures c.first_step.new.port) (g.P.Port.failures c.keep_steps.new.port) _
    (c.in-Ok-keep_steps.ensures.ended begun _ made) c.send_steps.ensures.not_received c.in-Ok-first_step.ensures.no_fault
    (c.keep_steps.ensures.not_sent ∙ c.first_step.ensures.not_sent)
    (c.send_steps.ensures.sent ∙ ap (λ (s : List Stepped). grown (g.P.Port.sent c.keep_steps.new.port) (flat_map (λ (one : Stepped). one.step.out) s)) c.steps.ensures)
    c.send_steps.ensures.fault

pub returns-in-Ok-keep_steps-clause-stands : goal.returns-in-Ok-keep_steps-clause-stands
returns-in-Ok-keep_steps-clause-stands g c keeps =
    let stepped = c.in-Ok-first_step.stepped in
    let is = c.push.ensures ∙ ap (λ (b : BatchState). record b { steps = b.steps ++ stepped ∷ [] }) c.begin.ensures in
    let made = c.in-Ok-first_step.ensures.made in
    let step = first_step_is g.N.Node.acts g.N.Node.is_step _ _ _ c.in-Ok.now c.push.new.self stepped _ _
    (record { reads = c.in-Ok.ensures.reads; generator = c.moment.ensures.generator; node = refl; busy = refl }) is made in (
      flat_map (λ (one : Stepped). one.step.out) c.steps.result.now,
      c.send_steps.ensures.sent ∙ ap (λ told. grown told (flat_map (λ (one : Stepped). one.step.out) c.steps.result.now))
          (c.keep_steps.ensures.not_sent ∙ c.first_step.ensures.not_sent),
      Stands.told _ (c.in-Ok-keep_steps.ensures.kept c.args.kept.now.node step.0 stepped (ap (λ (b : BatchState). b.steps) is) step.1 keeps),
    )

pub returns-in-Err-keep_steps-clause-not_kept : goal.returns-in-Err-keep_steps-clause-not_kept
returns-in-Err-keep_steps-clause-not_kept g c =
    let acts = g.N.Node.acts in
    let is_step = g.N.Node.is_step in
    let begun = running c.args.kept.now.node c.args.pace.now.busy_since c.moment.new.self in
    let mid = running c.first_step.new.node c.first_step.new.pace.busy_since c.first_step.new.supply in
    let stepped = c.in-Ok-first_step.stepped in
    let begins : Begins (running c.args.kept.now.node c.args.pace.now.busy_since c.args.supply.now) c.in-Ok.now begun =
    record { reads = c.in-Ok.ensures.reads; generator = c.moment.ensures.generator; node = refl; busy = refl } in
    let is = c.push.ensures ∙ ap (λ (b : BatchState). record b { steps = b.steps ++ stepped ∷ [] }) c.begin.ensures in
    let made = first_made acts is_step _ begun mid c.in-Ok.now c.push.new.self stepped _ _ begins is c.in-Ok-first_step.ensures.made in
    misses_turn acts is_step _ begun mid c.in-Ok.now c.push.new.self stepped _ _ begins is c.in-Ok-first_step.ensures.made
    c.keep_steps.new.batch _ _ _ _ _ _ (c.in-Err-keep_steps.ensures.missed begun _ made) (c.keep_steps.ensures.not_sent ∙ c.first_step.ensures.not_sent)

pub returns-in-Err-keep_steps-clause-stands : goal.returns-in-Err-keep_steps-clause-stands
returns-in-Err-keep_steps-clause-stands g c keeps =
    let stepped = c.in-Ok-first_step.stepped in
    let is = c.push.ensures ∙ ap (λ (b : BatchState). record b { steps = b.steps ++ stepped ∷ [] }) c.begin.ensures in
    let made = c.in-Ok-first_step.ensures.made in
    let step = first_step_is g.N.Node.acts g.N.Node.is_step _ _ _ c.in-Ok.now c.push.new.self stepped _ _
    (record { reads = c.in-Ok.ensures.reads; generator = c.moment.ensures.generator; node = refl; busy = refl }) is made in (
      [],
      c.keep_steps.ensures.not_sent ∙ c.first_step.ensures.not_sent ∙ grown_none _,
      Stands.untold (c.in-Err-keep_steps.ensures.crash c.args.kept.now.node step.0 stepped (ap (λ (b : BatchState). b.steps) is) step.1 keeps),
    )
