use Rattle.osc_authz.proofs.KeptPlaces.{kept_is_free}
use Rattle.osc_authz.proofs.laws.a_kept_place_is_free.Goals as goal

pub returns : goal.returns
returns c = kept_is_free
