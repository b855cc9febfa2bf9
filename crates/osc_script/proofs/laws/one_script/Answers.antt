use Rattle.osc_script.proofs.Scripts.{one_script_law}
use Rattle.osc_script.proofs.laws.one_script.Goals as goal

pub returns : goal.returns
returns c = one_script_law
