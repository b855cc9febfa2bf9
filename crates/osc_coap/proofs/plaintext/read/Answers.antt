use Rattle.std.proofs.Common.{arith}
use Rattle.osc_coap.proofs.MessageLaws.{parts_read}
use Rattle.osc_coap.proofs.PlaintextLaws.{kept_lawful, kept_spelled}
use Rattle.osc_coap.proofs.plaintext.read.Goals as goal

pub invariant_of-result : goal.invariant_of-result
invariant_of-result c = record {
  lawful = kept_lawful c.args.bytes.now c.in_ok-code.body.now c.in_ok-code.code.now _ (λ i. omega (arith, c.type_inv.bytes i)) c.in_ok-code.ensures.cases.0 c.in_ok-payload.ensures;
  spelled = kept_spelled c.args.bytes.now c.in_ok-code.body.now c.in_ok-code.code.now _ (λ i. omega (arith, c.type_inv.bytes i)) c.in_ok-code.ensures.cases.0 c.in_ok-payload.ensures;
  read = parts_read _ _ c.in_ok-payload.ensures;
}
