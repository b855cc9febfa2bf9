use Rattle.osc_coap.proofs.LengthLaws.{length-bare, length-with_option, option_length_most, length-with_payload, payload_length_most}
use Rattle.osc_coap.proofs.laws.length_of_growing.Goals as goal

pub returns-clause-bare : goal.returns-clause-bare
returns-clause-bare c = length-bare

pub returns-clause-option : goal.returns-clause-option
returns-clause-option c = length-with_option

pub returns-clause-option_most : goal.returns-clause-option_most
returns-clause-option_most c = option_length_most

pub returns-clause-payload : goal.returns-clause-payload
returns-clause-payload c = length-with_payload

pub returns-clause-payload_most : goal.returns-clause-payload_most
returns-clause-payload_most c = payload_length_most
