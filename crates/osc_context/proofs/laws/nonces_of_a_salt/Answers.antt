use Rattle.osc_context.proofs.SaltLemmas.{client_nonce_of, server_nonce_of}
use Rattle.osc_context.proofs.laws.nonces_of_a_salt.Goals as goal

pub returns-clause-client : goal.returns-clause-client
returns-clause-client c = client_nonce_of

pub returns-clause-server : goal.returns-clause-server
returns-clause-server c = server_nonce_of
