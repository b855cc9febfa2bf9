use Rattle.osc_options.proofs.AroundLaws.{request_outer}
use Rattle.osc_options.proofs.laws.requests_are_encrypted.Goals as goal

pub returns : goal.returns
returns c = request_outer
