use Rattle.std.proofs.Common.{◌≡◌, ◌∙◌, ap, codes, refl, sym}
use Rattle.serde_json.proofs.OnLiterals.{serde_json_on_literals}
use Rattle.osc_log.specs.Faults.{unsaid_text}
use Rattle.osc_log.specs.declared.form.Form.TheVariants.{Json}
use Rattle.osc_log.proofs.faults.unsaid_line.Goals as goal

as_object : codes "{\"level\":\"fault\",\"why\":\"out of memory: why the settings are bad is not told\"}\n" ≡ unsaid_text Json
unfolding serde_json_on_literals
as_object = refl

pub returns-in-Json : goal.returns-in-Json
returns-in-Json c = as_object ∙ sym (ap unsaid_text c.in-Json.is)
