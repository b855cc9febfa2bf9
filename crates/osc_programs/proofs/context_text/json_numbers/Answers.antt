use Rattle.std.proofs.Common.{◌∙◌, decimal}
use Rattle.std.proofs.lemmas.Result.{IfOk-weaker}
use Rattle.osc_programs.proofs.Contexts.{number_pieces}
use Rattle.osc_programs.proofs.context_text.json_numbers.Goals as goal

pub returns : goal.returns
returns c = IfOk-weaker c.format.result _ _ (λ text e. e ∙ number_pieces (decimal c.args.alg) (decimal c.args.next)) c.format.ensures.ok
