use Rattle.osc_coap.proofs.LengthLaws.{length-spelling, length-spelling_most}
use Rattle.osc_coap.proofs.laws.length_of_spelling.Goals as goal

pub returns-clause-exact : goal.returns-clause-exact
returns-clause-exact c = length-spelling

pub returns-clause-most : goal.returns-clause-most
returns-clause-most c = length-spelling_most
