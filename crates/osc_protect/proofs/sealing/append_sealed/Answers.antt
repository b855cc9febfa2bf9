use Rattle.std.proofs.Common.{ℕ, ◌+◌, length, ap, arith}
use Rattle.osc_protect.proofs.sealing.append_sealed.Goals as goal

pub append_payload-requires-clause-can : goal.append_payload-requires-clause-can
append_payload-requires-clause-can g c =
    let whole = ap (λ (tag : ℕ). length c.args.text.now + tag) c.tag.ensures in
    (whole, omega (arith, whole, c.requires.size), c.requires.aad)
