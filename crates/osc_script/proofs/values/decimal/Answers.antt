use Rattle.osc_script.proofs.Numbers.{number_reads}
use Rattle.osc_script.proofs.values.decimal.Goals as goal

pub returns : goal.returns
returns c = number_reads c.args.word.now _ c.number.ensures
