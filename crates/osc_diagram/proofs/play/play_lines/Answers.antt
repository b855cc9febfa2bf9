use Rattle.std.proofs.Common.{sym, subst}
use Rattle.osc_simulation.specs.{Begins}
use Rattle.osc_diagram.specs.Scenes.{PlayAll}
use Rattle.osc_diagram.proofs.play.play_lines.Goals as goal

pub returns : goal.returns
returns c =
    let first = c.first-stage.result in
    let lines = c.args.lines.now in
    record {
      names = c.in_ok-names.ensures;
      first = first;
      begins = subst (λ world. Begins lines world) (sym c.first-stage.ensures.world) c.in_ok-world.ensures;
      is_first = c.first-stage.ensures.first;
      plays = subst
          (λ lost. PlayAll c.in_ok-names.names (record { stage = first; lost = lost }) lines c.in_ok-scenes.scenes.items
          (record { stage = c.play_all.new.stage; lost = c.play_all.new.lost.items }))
          c.new-lost.ensures.items c.in_ok-scenes.ensures;
    }
