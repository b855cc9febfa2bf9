use Rattle.std.proofs.Common.{◌∙◌, ap}
use Rattle.osc_script.specs.Inner.Reading.{short_number_in}
use Rattle.osc_script.proofs.Numbers.{short_number_reads}
use Rattle.osc_script.proofs.values.short_number.Goals as goal

pub returns : goal.returns
returns c = short_number_reads c.args.text.now _ (c.short_number.ensures ∙ ap short_number_in c.as_bytes.ensures.value)
