use Rattle.std.proofs.Common.{◌∙◌, ap, subst, map}
use Rattle.std.proofs.lemmas.Bool.{iff_false}
use Rattle.std.proofs.lemmas.Result.{IfOk-weaker}
use Rattle.osc_script.specs.{words_of, IsSkipped}
use Rattle.osc_script.proofs.Said.{reads_says}
use Rattle.osc_script.proofs.text.line.Goals as goal

pub returns : goal.returns
returns c =
    let ok = rw c.in-Ok.is at c.from_utf8.ensures.cases in
    let words = ap (λ ws. map (λ w. w.now) ws) c.deref.ensures.value ∙ c.in_ok-words.ensures ∙ ap words_of ok.0 in
    let not_skipped = subst (λ t. ¬ IsSkipped t) (c.as_bytes.ensures.value ∙ ok.0) (iff_false c.is_skipped.ensures c.if-is_skipped.false) in
    IfOk-weaker c.say.result _ _ (λ found. reads_says c.args.text.now _ found ok.1 not_skipped words) c.say.ensures
