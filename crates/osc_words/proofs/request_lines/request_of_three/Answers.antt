use Rattle.std.proofs.Common.{List, ℕ, Option, subst}
use Rattle.std.proofs.lemmas.Result.{IfOk-weaker}
use Rattle.osc_script.specs.{Reads}
use Rattle.osc_words.specs.RequestLines.{IsRequestOf, with_third}
use Rattle.osc_words.proofs.request_lines.request_of_three.Goals as goal

pub returns-in-Some : goal.returns-in-Some
returns-in-Some c =
    let digits = rw c.in-Some.is at c.format_digits.ensures in
    IfOk-weaker c.request.result _ _
    (λ found reads. subst (λ (digits : Option (List ℕ)). Reads (IsRequestOf (with_third c.args.method.now c.args.path.now c.args.word.now digits)) found) digits reads)
    c.request.ensures

pub returns-in-None : goal.returns-in-None
returns-in-None c =
    let digits = rw c.in-None.is at c.format_digits.ensures in
    IfOk-weaker c.request-in-None.result _ _
    (λ found reads. subst (λ (digits : Option (List ℕ)). Reads (IsRequestOf (with_third c.args.method.now c.args.path.now c.args.word.now digits)) found) digits reads)
    c.request-in-None.ensures
