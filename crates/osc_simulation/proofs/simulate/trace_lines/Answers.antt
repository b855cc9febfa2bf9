use Rattle.std.proofs.Common.{◌++◌, refl, sym, subst}
use Rattle.std.proofs.lemmas.Result.{IfOk-weaker}
use Rattle.std.specs.Io.KnownBytes.{Appends}
use Rattle.osc_simulation.specs.{names_in, Begins, IsFront, Prints, later, only_text}
use Rattle.osc_simulation.proofs.simulate.trace_lines.Goals as goal

pub returns-clause-done : goal.returns-clause-done
returns-clause-done g c =
    let first = c.first-stage.result in
    let last = c.trace_from-traced.new.stage in
    let lines = c.args.lines.now in
    let begins = subst (λ world. Begins lines world) (sym c.first-stage.ensures.world) c.in_ok-world.ensures in
    IfOk-weaker c.trace_from-traced.result _ _
    (λ _ t. (
      t.0 ++ t.1 ++ only_text (names_in lines) last.world c.args.only,
      (
        t.0,
        t.1,
        first,
        last,
        begins,
        c.first-stage.ensures.first,
        subst (λ names. Prints (record { form = c.args.form; names = names }) 1 first lines t.0 last) c.in_ok-names.ensures t.2,
        t.3,
        refl,
      ),
      subst (λ names. Appends (g.W.Write.contents c.args.writer.now) (g.W.Write.contents c.trace_from-traced.new.writer) (t.0 ++ t.1 ++ only_text names last.world c.args.only))
          c.in_ok-names.ensures t.4,
    )) c.trace_from-traced.ensures.done

pub returns-clause-cut : goal.returns-clause-cut
returns-clause-cut g c = λ cut.
    let first = c.first-stage.result in
    let lines = c.args.lines.now in
    let begins = subst (λ world. Begins lines world) (sym c.first-stage.ensures.world) c.in_ok-world.ensures in
    let front = c.trace_from-traced.ensures.cut cut in (
      front.0,
      later first begins c.first-stage.ensures.first (subst (λ names. IsFront (record { form = c.args.form; names = names }) first lines front.0) c.in_ok-names.ensures front.1),
      front.2,
    )
