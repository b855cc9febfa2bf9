use Rattle.osc_script.proofs.Lines.{moment_read}
use Rattle.osc_script.proofs.running.moment_of.Goals as goal

pub returns : goal.returns
returns c = moment_read c.args.ms c.new.result c.new.ensures.value c.new.ensures.some
