use Rattle.osc_simulation.proofs.Puts as puts
use Rattle.osc_simulation.proofs.laws.a_script_fits.Goals as goal

pub returns : goal.returns
returns c = puts.a_script_fits
