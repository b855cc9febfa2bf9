use Rattle.osc_coap.proofs.BuildLaws.{lawful_bare, lawful_with_option, last_number-push, lawful_with_payload}
use Rattle.osc_coap.proofs.laws.growing.Goals as goal

pub returns-clause-bare : goal.returns-clause-bare
returns-clause-bare c = lawful_bare

pub returns-clause-option : goal.returns-clause-option
returns-clause-option c = lawful_with_option

pub returns-clause-last : goal.returns-clause-last
returns-clause-last c = λ m number value. last_number-push 0 m.options (number, value)

pub returns-clause-payload : goal.returns-clause-payload
returns-clause-payload c = lawful_with_payload
