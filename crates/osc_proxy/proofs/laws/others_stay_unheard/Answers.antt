use Rattle.osc_proxy.proofs.Unheard.{still_unheard}
use Rattle.osc_proxy.proofs.laws.others_stay_unheard.Goals as goal

pub returns : goal.returns
returns c = still_unheard
