use Rattle.osc_coap.proofs.FewerLaws.{AreOptions-filter, last_number-filter, options_length-filter}
use Rattle.osc_coap.proofs.laws.fewer_options.Goals as goal

pub returns-clause-options : goal.returns-clause-options
returns-clause-options c = AreOptions-filter

pub returns-clause-last : goal.returns-clause-last
returns-clause-last c = last_number-filter

pub returns-clause-length : goal.returns-clause-length
returns-clause-length c = options_length-filter
