use Rattle.std.specs.FinMap as map
use Rattle.std.proofs.Common.{sym, subst}
use Rattle.osc_simulation.specs.{CanPutAll}
use Rattle.osc_diagram.proofs.diagram.diagram_of.Goals as goal

pub drawn_diagram-requires : goal.drawn_diagram-requires
drawn_diagram-requires c =
    subst (CanPutAll map.empty) (sym c.lines.ensures) (c.a_script_fits.ensures c.args.script.now c.in_ok-script.script c.in_ok-script.ensures.read)
