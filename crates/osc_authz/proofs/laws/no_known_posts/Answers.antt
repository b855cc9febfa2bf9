use Rattle.osc_authz.proofs.KnownLaws.{none_known}
use Rattle.osc_authz.proofs.laws.no_known_posts.Goals as goal

pub returns : goal.returns
returns c = none_known
