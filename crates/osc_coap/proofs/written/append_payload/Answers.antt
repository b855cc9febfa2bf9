use Rattle.std.proofs.Common.{◌-◌, ◌++◌, List, ℕ, ap, ◌∙◌, take, length, arith}
use Rattle.osc_coap.proofs.PayloadLaws.{length-before_zeros, written_last}
use Rattle.osc_coap.proofs.written.append_payload.Goals as goal

pub write_last-requires-clause-there : goal.write_last-requires-clause-there
write_last-requires-clause-there g c =
    omega (arith, length-before_zeros c.args.out.now.items c.args.size, ap length c.append_zeros.ensures.written)

pub returns : goal.returns
returns g c =
    let last = c.write_last.ensures in
    let behind = ap (λ (all : List ℕ). take (length all - c.args.size) all ++ last.0) c.append_zeros.ensures.written in
    (last.0, last.1, last.2, last.3 ∙ behind ∙ written_last c.args.out.now.items c.args.size last.0 last.1)
