use Rattle.osc_coap.proofs.BuildLaws.{spelling-with_option, spelling-with_payload}
use Rattle.osc_coap.proofs.laws.spelling_of_growing.Goals as goal

pub returns-clause-option : goal.returns-clause-option
returns-clause-option c = spelling-with_option

pub returns-clause-payload : goal.returns-clause-payload
returns-clause-payload c = spelling-with_payload
