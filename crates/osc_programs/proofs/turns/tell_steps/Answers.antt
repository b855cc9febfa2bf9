use Rattle.std.proofs.Common.{◌≡◌, ◌∙◌, ◌++◌, ◌∷◌, [], List, ap, subst, sym, take}
use Rattle.std.proofs.lemmas.List.{map_more}
use Rattle.osc_log.specs.{Event, Tells}
use Rattle.osc_turn.specs.declared.turning.Stepped.{Stepped}
use Rattle.osc_programs.specs.Turning.{of_step, of_steps}
use Rattle.osc_programs.proofs.turns.tell_steps.Goals as goal

pub loop-stepped-init : goal.loop-stepped-init
loop-stepped-init g c = c.telling_goes_on.ensures.none _

pub loop-stepped-preserved : goal.loop-stepped-preserved
loop-stepped-preserved g c =
    let here = c.loop-stepped in
    let steps = c.args.steps.now in
    let tell = of_step c.args.now (g.N.Holding.held c.args.node.now) in
    subst (λ (events : List Event). Tells (g.L.Log.told c.args.log.now) (g.L.Log.told c.tell_step.new.log) events)
    (ap (λ (stepped : Stepped). of_steps c.args.now (g.N.Holding.held c.args.node.now) (take here.stepped-index steps) ++ tell stepped ∷ []) c.stepped-item.is
    ∙ sym (map_more tell steps here.stepped-index _ c.loop-stepped-test.true))
    (c.telling_goes_on.ensures.more _ _ _ _ _ here.invariant c.tell_step.ensures)
