use Rattle.std.proofs.Common.{◌∙◌, decimal}
use Rattle.std.proofs.lemmas.Result.{IfOk-weaker}
use Rattle.osc_model.specs.{peer_text}
use Rattle.osc_log.proofs.Printing.{who_pieces}
use Rattle.osc_log.proofs.text.who_text.Goals as goal

pub returns : goal.returns
returns c = IfOk-weaker c.format.result _ _ (λ text e. e ∙ who_pieces (decimal c.args.now.ms) (peer_text c.args.peer)) c.format.ensures.ok
