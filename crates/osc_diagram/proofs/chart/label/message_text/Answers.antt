use Rattle.std.proofs.Common.{◌∙◌, ap}
use Rattle.std.proofs.lemmas.Result.{IfOk-weaker}
use Rattle.hex.specs.Hex.{encode_lower}
use Rattle.osc_coap.specs.{kind_name}
use Rattle.osc_diagram.specs.Chart.Capture.{two}
use Rattle.osc_diagram.specs.Chart.Label.{oscore_text, token_text}
use Rattle.osc_model.specs.{code_text}
use Rattle.osc_diagram.proofs.chart.Lines.{message_pieces}
use Rattle.osc_diagram.proofs.chart.label.message_text.Goals as goal

pub returns : goal.returns
returns c =
    IfOk-weaker c.format.result _ _
    (λ text e. e ∙ message_pieces _ _ _ _ _ _ _ _ _ _ (ap kind_name c.kind-kind.ensures) (ap code_text c.code.ensures.value)
    (c.in_ok-id.ensures ∙ ap (λ id. encode_lower (two id)) c.id.ensures) (c.in_ok-token.ensures ∙ ap token_text c.token.ensures.value)
    (c.in_ok-oscore.ensures ∙ ap (λ has. oscore_text has c.args.inner) c.has_option.ensures)) c.format.ensures.ok
