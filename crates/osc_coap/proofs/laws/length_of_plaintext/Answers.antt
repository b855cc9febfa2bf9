use Rattle.osc_coap.proofs.PlaintextLaws.{length-plaintext_spelling}
use Rattle.osc_coap.proofs.laws.length_of_plaintext.Goals as goal

pub returns : goal.returns
returns c = length-plaintext_spelling
