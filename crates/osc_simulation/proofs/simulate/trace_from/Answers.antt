use Rattle.std.proofs.Common.{◌≡◌, ◌++◌, [], refl, ap, sym, subst, append-nil, Err}
use Rattle.std.specs.Io.KnownBytes.{Appends}
use Rattle.osc_simulation.specs.{IsEnd, in_lines, at_end}
use Rattle.osc_simulation.specs.declared.error.TraceError.TheVariants.{OutOfMemory}
use Rattle.osc_simulation.proofs.Runs.{appends_more, exit_was}
use Rattle.osc_simulation.proofs.simulate.trace_from.Goals as goal

pub returns-in_err-trace_events-clause-cut : goal.returns-in_err-trace_events-clause-cut
returns-in_err-trace_events-clause-cut g c = λ cut.
    let same = exit_was c.from_residual.result c.in_err-trace_events.field-0.0 OutOfMemory c.from_residual.ensures.1 cut in
    let events = c.in_err-trace_events.ensures.cut (ap Err (sym same)) in
    (events.0, in_lines events.1 events.2 events.3 events.4 events.5, events.6)

pub returns-in_err-trace_end-clause-cut : goal.returns-in_err-trace_end-clause-cut
returns-in_err-trace_end-clause-cut g c = λ cut.
    let same = exit_was c.from_residual-in_err-trace_end.result c.in_err-trace_end.field-0.0 OutOfMemory c.from_residual-in_err-trace_end.ensures.1 cut in
    let unwritten = c.in_err-trace_end.ensures.cut (ap Err (sym same)) in
    let events = c.in_ok-trace_events.ensures.done in
    let lines = c.args.lines.now in (
      events.0,
      in_lines lines [] c.trace_events.new.stage (sym (append-nil lines)) events.1,
      subst (λ writer. Appends (g.W.Write.contents c.args.writer.now) (g.W.Write.contents writer) events.0) (sym unwritten) events.2,
    )

pub returns-clause-cut : goal.returns-clause-cut
returns-clause-cut g c = λ cut.
    let unwritten = c.trace_alone.ensures.cut cut in
    let events = c.in_ok-trace_events.ensures.done in
    let end = c.in_ok-trace_end.ensures.done in (
      events.0 ++ end.0,
      at_end events.0 end.0 c.trace_events.new.stage events.1 (subst (λ world. IsEnd world end.0) c.world.ensures end.1) refl,
      subst (λ writer. Appends (g.W.Write.contents c.args.writer.now) (g.W.Write.contents writer) (events.0 ++ end.0)) (sym unwritten)
          (appends_more _ _ _ events.0 end.0 events.2 end.2),
    )
