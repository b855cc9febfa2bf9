use Rattle.std.proofs.Common.{◌∙◌, List, ℕ, ap, map, subst}
use Rattle.std.proofs.lemmas.Result.{IfOk-weaker}
use Rattle.osc_script.specs.{Reads}
use Rattle.osc_words.specs.RequestLines.{IsRequestIn, parts_of}
use Rattle.osc_words.proofs.request_lines.request_of.Goals as goal

pub returns : goal.returns
returns c =
    let words = ap (λ ws. map (λ w. w.now) ws) c.deref.ensures.value ∙ c.in_ok-words.ensures in
    IfOk-weaker c.request_in.result _ _ (λ found reads. subst (λ (words : List (List ℕ)). Reads (IsRequestIn (parts_of words)) found) words reads) c.request_in.ensures
