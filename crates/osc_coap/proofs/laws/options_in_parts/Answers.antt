use Rattle.osc_coap.proofs.LengthLaws.{options_length-append}
use Rattle.osc_coap.proofs.FewerLaws.{last_number-append, AreOptions-join, AreOptions-front, AreOptions-back}
use Rattle.osc_coap.proofs.laws.options_in_parts.Goals as goal

pub returns-clause-last : goal.returns-clause-last
returns-clause-last c = last_number-append

pub returns-clause-length : goal.returns-clause-length
returns-clause-length c = options_length-append

pub returns-clause-joined : goal.returns-clause-joined
returns-clause-joined c = AreOptions-join

pub returns-clause-front : goal.returns-clause-front
returns-clause-front c = AreOptions-front

pub returns-clause-back : goal.returns-clause-back
returns-clause-back c = AreOptions-back
