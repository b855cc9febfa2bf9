use Rattle.std.proofs.Common.{◌≡◌, ◌+◌, ◌++◌, ◌∷◌, [], refl, sym, subst, take, drop, length, arith}
use Rattle.std.proofs.lemmas.List.{take-append-drop}
use Rattle.std.specs.Io.KnownBytes.{Appends}
use Rattle.osc_simulation.specs.{Printing, Prints, PrintsLine}
use Rattle.osc_simulation.proofs.Runs.{appends_more, appends_none, nth, one_line_more, take_item}
use Rattle.osc_simulation.proofs.simulate.trace_events.Goals as goal

pub loop-line-init : goal.loop-line-init
loop-line-init g c = (refl, ([], (refl, refl), appends_none _))

pub loop-line-preserved : goal.loop-line-preserved
loop-line-preserved g c =
    let here = c.loop-line in
    let lines = c.args.lines.now in
    let more = c.in_ok-more.more.items in
    let printing : Printing = record { form = c.args.form; names = c.args.names.now } in
    let so_far = here.invariant.1 in
    let same : take (here.line-index + 1) lines ≡ take here.line-index lines ++ c.line-item.result ∷ [] =
    take_item lines here.line-index _ c.line-item.result c.loop-line-test.true c.line-item.is in
    let place : here.number + 1 ≡ 1 + length (take here.line-index lines) = nth lines here.line-index here.number c.loop-line-test.true here.invariant.0 in
    let counted = subst (λ number. PrintsLine printing number here.stage c.line-item.result more c.line_text.new.stage) place c.in_ok-more.ensures in
    let written : Appends (g.W.Write.contents here.writer) (g.W.Write.contents c.put.new.writer) more =
    subst (λ bytes. Appends (g.W.Write.contents here.writer) (g.W.Write.contents c.put.new.writer) bytes) c.deref.ensures.value c.in_ok-put.ensures.written in (
      omega (arith, here.invariant.0),
      (
        so_far.0 ++ more,
        subst (λ done. Prints printing 1 c.args.stage.now done (so_far.0 ++ more) c.line_text.new.stage) (sym same)
            (one_line_more printing 1 (take here.line-index lines) c.line-item.result c.args.stage.now here.stage c.line_text.new.stage so_far.0 more so_far.1 counted),
        appends_more _ _ _ so_far.0 more so_far.2 written,
      ),
    )

pub returns-in_err-more-clause-cut : goal.returns-in_err-more-clause-cut
returns-in_err-more-clause-cut g c = λ cut.
    let here = c.loop-line in
    let lines = c.args.lines.now in
    let so_far = here.invariant.1 in
    (so_far.0, take here.line-index lines, drop here.line-index lines, here.stage, sym (take-append-drop here.line-index lines), so_far.1, so_far.2)
