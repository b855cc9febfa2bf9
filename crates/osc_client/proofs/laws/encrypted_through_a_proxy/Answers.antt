use Rattle.osc_client.specs.{plain_request}
use Rattle.osc_client.proofs.Through.{encrypted_same, request_order}
use Rattle.osc_client.proofs.laws.encrypted_through_a_proxy.Goals as goal

pub returns-clause-message : goal.returns-clause-message
returns-clause-message c = encrypted_same c.merged_options.ensures.order c.merged_options.ensures.each c.merged_options.ensures.only

pub returns-clause-request : goal.returns-clause-request
returns-clause-request c = λ origin id token request.
    encrypted_same c.merged_options.ensures.order c.merged_options.ensures.each c.merged_options.ensures.only origin (plain_request id token request) (request_order id token request)
