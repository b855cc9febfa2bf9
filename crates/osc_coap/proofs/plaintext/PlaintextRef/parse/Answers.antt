use Rattle.std.proofs.Common.{ap, ◌∙◌, arith}
use Rattle.osc_coap.specs.{plaintext_at}
use Rattle.osc_coap.proofs.PlaintextLaws.{is_found, plaintext_again}
use Rattle.osc_coap.proofs.plaintext.PlaintextRef.parse.Goals as goal

pub returns-clause-found : goal.returns-clause-found
returns-clause-found c = is_found c.args.bytes.now c.read.result (λ i. omega (arith, c.type_inv.bytes i)) c.read.ensures

pub returns-clause-only : goal.returns-clause-only
returns-clause-only c = λ p spells. c.read.ensures ∙ ap plaintext_at spells.whole ∙ plaintext_again p spells.lawful
