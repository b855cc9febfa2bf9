use Rattle.std.proofs.Common.{◌∙◌, ap}
use Rattle.osc_script.specs.Inner.Reading.{number_in}
use Rattle.osc_script.proofs.Numbers.{number_reads}
use Rattle.osc_script.proofs.values.number.Goals as goal

pub returns : goal.returns
returns c = number_reads c.args.text.now _ (c.number.ensures ∙ ap number_in c.as_bytes.ensures.value)
