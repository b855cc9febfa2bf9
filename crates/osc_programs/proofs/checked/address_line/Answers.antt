use Rattle.std.proofs.Common.{◌∙◌}
use Rattle.std.proofs.lemmas.Result.{IfOk-weaker}
use Rattle.osc_model.specs.{peer_text}
use Rattle.osc_programs.proofs.Printing.{address_pieces}
use Rattle.osc_programs.proofs.checked.address_line.Goals as goal

pub returns : goal.returns
returns c = IfOk-weaker c.format.result _ _ (λ text e. e ∙ address_pieces c.args.name.now (peer_text c.args.peer)) c.format.ensures.ok
