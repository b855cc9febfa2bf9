use Rattle.std.proofs.Common.{◌-◌, ◌++◌, List, ℕ, ap, ◌∙◌, take, length, refl, arith}
use Rattle.osc_coap.proofs.PayloadLaws.{length-before_zeros, written_last}
use Rattle.osc_coap.proofs.body.Writer.write_payload.Goals as goal

pub write_last-requires-clause-there : goal.write_last-requires-clause-there
write_last-requires-clause-there g c =
    omega (arith, length-before_zeros c.args.self.now.bytes.items c.args.size, ap length c.in_ok-push_zeros.ensures.ok)

pub returns-clause-ok : goal.returns-clause-ok
returns-clause-ok g c =
    let last = c.write_last.ensures in
    let behind = ap (λ (all : List ℕ). take (length all - c.args.size) all ++ last.0) c.in_ok-push_zeros.ensures.ok in
    (last.0, last.1, last.2, last.3 ∙ behind ∙ written_last c.args.self.now.bytes.items c.args.size last.0 last.1, refl)
