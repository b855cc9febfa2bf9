use Rattle.osc_rounds.proofs.Forwarded.{outer_forwarded, outer_in_order, request_forwarded, response_sent_back, text_forwarded}
use Rattle.osc_rounds.proofs.laws.forwarding_keeps_the_protection.Goals as goal

pub returns-clause-request : goal.returns-clause-request
returns-clause-request g c = λ name number plain protected id token order none made.
    request_forwarded g.A.Ciphers.is_sealing name number plain protected id token (outer_in_order plain.options order) none made

pub returns-clause-inside : goal.returns-clause-inside
returns-clause-inside g c = λ message id token none. text_forwarded id token message none

pub returns-clause-outside : goal.returns-clause-outside
returns-clause-outside g c = λ message id token none. outer_forwarded message.options none

pub returns-clause-response : goal.returns-clause-response
returns-clause-response g c = λ name number own plain protected kind id token made.
    response_sent_back g.A.Ciphers.is_sealing name number own plain protected kind id token made
