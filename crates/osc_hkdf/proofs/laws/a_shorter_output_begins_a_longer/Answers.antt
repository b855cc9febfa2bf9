use Rattle.osc_hkdf.proofs.Output.{expand_of-begins}
use Rattle.osc_hkdf.proofs.laws.a_shorter_output_begins_a_longer.Goals as goal

pub returns : goal.returns
returns c = expand_of-begins
