use Rattle.std.proofs.Common.{List, ℕ, Option, subst}
use Rattle.std.proofs.lemmas.Result.{IfOk-weaker}
use Rattle.osc_script.specs.{Reads}
use Rattle.osc_words.specs.RequestLines.{IsRequestIn, with_fourth}
use Rattle.osc_words.proofs.request_lines.request_of_four.Goals as goal

pub returns-in-Some : goal.returns-in-Some
returns-in-Some c =
    let digits = rw c.in-Some.is at c.format_digits.ensures in
    IfOk-weaker c.request.result _ _
    (λ found reads. subst (λ (digits : Option (List ℕ)). Reads (IsRequestIn (with_fourth c.args.method.now c.args.path.now c.args.hex.now digits)) found) digits reads)
    c.request.ensures
