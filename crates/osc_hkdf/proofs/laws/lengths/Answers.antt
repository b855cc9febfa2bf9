use Rattle.osc_hkdf.proofs.Output.{length-hmac_of, length-extract_of, length-expand_of}
use Rattle.osc_hkdf.proofs.laws.lengths.Goals as goal

pub returns-clause-hmac : goal.returns-clause-hmac
returns-clause-hmac c = length-hmac_of

pub returns-clause-extract : goal.returns-clause-extract
returns-clause-extract c = length-extract_of

pub returns-clause-expand : goal.returns-clause-expand
returns-clause-expand c = length-expand_of
