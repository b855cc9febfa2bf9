use Rattle.std.proofs.Common.{sym, subst, inr}
use Rattle.std.specs.FinMap as map
use Rattle.osc_simulation.specs.{CanPutAll, IsCut}
use Rattle.osc_simulation.proofs.Puts.{a_script_fits}
use Rattle.osc_simulation.proofs.simulate.trace_script.Goals as goal

pub trace_lines-traced-requires : goal.trace_lines-traced-requires
trace_lines-traced-requires g c =
    subst (CanPutAll map.empty) (sym c.lines.ensures) (a_script_fits c.args.script.now c.in_ok-script.script c.in_ok-script.ensures.read)

pub returns-clause-cut : goal.returns-clause-cut
returns-clause-cut g c = λ cut.
    let part = c.trace_lines-traced.ensures.cut cut in
    (part.0, inr (c.in_ok-script.script, c.in_ok-script.ensures.read, subst (λ lines. IsCut c.args.form lines part.0) c.lines.ensures part.1), part.2)
