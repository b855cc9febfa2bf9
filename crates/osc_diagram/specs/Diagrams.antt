-- The diagram of a script.
use Rattle.std.specs.Prelude.{◌≡◌, ℕ, List, filter, reverse}
use Rattle.osc_diagram.specs.Chart.{is_met}
use Rattle.osc_diagram.specs.declared.chart.chart.Column.{Column}
use Rattle.osc_script.specs.{IsScript}
use Rattle.osc_script.specs.declared.line.Line.{Line}
use Rattle.osc_diagram.specs.Columns.{AreColumns, nodes_of}
use Rattle.osc_diagram.specs.Keys.{keys_of}
use Rattle.osc_diagram.specs.Marks.{marks_of}
use Rattle.osc_diagram.specs.Runs.{IsPlayed}
use Rattle.osc_diagram.specs.declared.diagram.Diagram.{Diagram}
use Rattle.osc_diagram.specs.declared.play.Played.{Played}

-- Its marks are those of the run, its columns are the nodes at which a mark is, and its keys are those of the run's steps, the oldest first.
pub record Shows (run : Played) (diagram : Diagram) : Type 0 where
  pub marks : diagram.marks.items ≡ marks_of run
  pub all : List Column
  pub are_columns : AreColumns (nodes_of run.names) all
  pub columns : diagram.columns.items ≡ filter (is_met (marks_of run)) all
  pub keys : diagram.keys.items ≡ keys_of (reverse run.stage.world.steps)

-- the diagram of these lines: of a run of them
abbrev pub IsDiagram : List Line → Diagram → Type 0
IsDiagram lines diagram = (run : Played) × IsPlayed lines run × Shows run diagram

-- of a script's text
abbrev pub IsDiagramOf : List ℕ → Diagram → Type 0
IsDiagramOf script diagram = (lines : List Line) × IsScript script lines × IsDiagram lines diagram
