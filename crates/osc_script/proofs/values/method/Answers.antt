use Rattle.osc_script.proofs.Nodes.{method_reads}
use Rattle.osc_script.proofs.values.method.Goals as goal

pub returns : goal.returns
returns c = method_reads c.args.text.now _ c.method.ensures
