use Rattle.std.proofs.Common.{arith}
use Rattle.osc_coap.proofs.PayloadLaws.{length-before_zeros}
use Rattle.osc_coap.proofs.body.push_zeros.Goals as goal

pub returns-then-size-gt-DATAGRAM_LIMIT-clause-variant : goal.returns-then-size-gt-DATAGRAM_LIMIT-clause-variant
returns-then-size-gt-DATAGRAM_LIMIT-clause-variant c =
    (λ e. absurd cc, λ fits. absurd (omega (arith, length-before_zeros c.args.out.now.items c.args.size)))
