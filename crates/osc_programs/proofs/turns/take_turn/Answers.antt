use Rattle.std.proofs.Common.{◌∙◌, ◌∷◌, [], None, ap, refl}
use Rattle.osc_turn.specs.{busy_after, must_tick}
use Rattle.osc_turn.specs.Running.{gave_in}
use Rattle.osc_programs.proofs.Passing.{came_given}
use Rattle.osc_programs.proofs.Taken.{came_in}
use Rattle.osc_programs.proofs.turns.take_turn.Goals as goal

pub returns-in-Ok-clause-takes : goal.returns-in-Ok-clause-takes
returns-in-Ok-clause-takes g c =
    let done = c.in-Ok.ensures.done in
    let now = c.in_ok-now.now in
    let busy = c.args.pace.now.busy_since in
    let due = must_tick (g.N.Node.acts c.args.node.now now) busy now in (
      gave_in due (record { came = done.0; step = c.in-Ok.turned.step } ∷ []) None,
      record {
        now = now;
        draw = c.in_ok-now.draw;
        came = done.0;
        gives = c.in_ok-now.ensures.gives;
        given = refl;
        ticks = came_in due done.0 _ _ done.1;
        steps = done.3;
        pace = c.in-Ok.ensures.pace ∙ ap (busy_after busy now) done.2;
      },
      record { given = came_given due done.0 c.in-Ok.turned.step _ _ done.1; handed = done.4 },
    )

pub returns-in-Ok-clause-at : goal.returns-in-Ok-clause-at
returns-in-Ok-clause-at g c = c.in_ok-now.ensures.gives.reads.is_moment
