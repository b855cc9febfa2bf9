-- What the set-up lines put fits into the tree.
use Rattle.std.specs.Prelude.{◌≤◌, ◌<◌, List, [], ◌∷◌, length}
use Rattle.std.specs.FinMap as map
use Rattle.osc_model.specs.{longest_payload, most_resources}
use Rattle.osc_model.specs.Tree.{Tree}
use Rattle.osc_script.specs.declared.line.Line.{Line}
use Rattle.osc_script.specs.declared.line.Line.TheVariants.{Put}
use Rattle.osc_simulation.specs.Simulation.{tree_after}

-- a put fits into the tree
abbrev pub CanPut : Tree → Line → Type 0
CanPut tree (Put path resource) = (length resource.payload ≤ longest_payload) × (map.len tree < most_resources)
CanPut tree line = Unit {0}

abbrev pub CanPutAll : Tree → List Line → Type 0
CanPutAll tree [] = Unit {0}
CanPutAll tree (line ∷ lines) = CanPut tree line × CanPutAll (tree_after tree line) lines
