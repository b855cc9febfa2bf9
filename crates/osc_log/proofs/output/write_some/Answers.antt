use Rattle.std.proofs.Common.{◌-◌, ◌++◌, ◌∙◌, ap, arith, drop, length, length-take, subst, sym, take}
use Rattle.std.proofs.Math.Seq.{take-add}
use Rattle.std.proofs.lemmas.List.{take-take}
use Rattle.std.specs.Io.KnownBytes.{Appends}
use Rattle.osc_log.proofs.Appended.{appends_more}
use Rattle.osc_log.proofs.output.write_some.Goals as goal

pub loop-taken-preserved : goal.loop-taken-preserved
loop-taken-preserved g c =
    let done = c.loop-taken.taken in
    let more = c.write_once-more.result in
    let text = c.args.text.now in
    let before = c.loop-taken.invariant in
    let most = length-take (length text - done) (drop done text) in
    let joined = ap (λ l. take done text ++ l) (take-take more (length text - done) (drop done text) (omega (arith, c.write_once-more.ensures.within, most))) ∙ sym (take-add done more text) in
    (omega (arith, c.write_once-more.ensures.within, most), subst (Appends _ _) joined (appends_more _ _ _ _ _ before.1 c.write_once-more.ensures.appends))
