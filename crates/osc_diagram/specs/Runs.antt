-- A script that was done, for its diagram.
use Rattle.std.specs.Prelude.{◌≡◌, List, []}
use Rattle.osc_script.specs.declared.line.Line.{Line}
use Rattle.osc_simulation.specs.{Begins, IsFirst, names_in}
use Rattle.osc_simulation.specs.declared.stage.Stage.{Stage}
use Rattle.osc_diagram.specs.Scenes.{PlayAll}
use Rattle.osc_diagram.specs.declared.play.Played.{Played}

-- these lines were done, from a world that they set up
pub record IsPlayed (lines : List Line) (run : Played) : Type 0 where
  pub names : run.names ≡ names_in lines
  pub first : Stage
  pub begins : Begins lines first.world
  pub is_first : IsFirst first
  pub plays : PlayAll run.names (record { stage = first; lost = [] }) lines run.scenes.items (record { stage = run.stage; lost = run.lost.items })
