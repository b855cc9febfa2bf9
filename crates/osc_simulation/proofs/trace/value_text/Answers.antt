use Rattle.std.proofs.Common.{◌∙◌, ap}
use Rattle.std.proofs.lemmas.Result.{IfOk-weaker}
use Rattle.osc_simulation.specs.{short_text}
use Rattle.osc_simulation.proofs.Lines.{value_pieces}
use Rattle.osc_simulation.proofs.trace.value_text.Goals as goal

pub returns : goal.returns
returns c =
    IfOk-weaker c.format.result _ _ (λ part e. e ∙ value_pieces _ _ _ _ c.in_ok-format.ensures (c.in_ok-payload.ensures ∙ ap short_text c.as_slice.ensures)) c.format.ensures.ok
