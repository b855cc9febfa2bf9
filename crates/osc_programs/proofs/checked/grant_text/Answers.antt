use Rattle.std.proofs.Common.{◌∙◌, ap₂}
use Rattle.std.proofs.lemmas.Result.{IfOk-weaker}
use Rattle.osc_programs.specs.{grant_line}
use Rattle.osc_programs.proofs.checked.grant_text.Goals as goal

pub returns : goal.returns
returns c = IfOk-weaker c.grant_line.result _ _ (λ _ is. is ∙ ap₂ grant_line c.len.ensures.len c.number.ensures) c.grant_line.ensures
