-- How a diagram is written.
use Rattle.std.specs.Prelude.{ℕ, List, flat_map}
use Rattle.osc_diagram.specs.Chart.{chart_text, picture}
use Rattle.osc_diagram.specs.declared.diagram.Diagram.{Diagram}
use Rattle.osc_words.specs.declared.sim_words.DiagramForm.{DiagramForm}
use Rattle.osc_words.specs.declared.sim_words.DiagramForm.TheVariants.{Text, Svg}

abbrev pub drawn_as : DiagramForm → Diagram → List ℕ
drawn_as Text diagram = chart_text diagram.columns.items diagram.marks.items
drawn_as Svg diagram = picture diagram.columns.items diagram.marks.items

-- lines one after another
abbrev pub joined : List (List ℕ) → List ℕ
joined lines = flat_map (λ line. line) lines
