use Rattle.std.proofs.Common.{length, ap, ◌∙◌, arith}
use Rattle.osc_protect.proofs.LawAad.{aad_short}
use Rattle.osc_protect.proofs.sealing.seal_into.Goals as goal

pub append_sealed-requires-clause-aad : goal.append_sealed-requires-clause-aad
append_sealed-requires-clause-aad g c =
    let aad = c.as_slice.ensures ∙ c.requires.aad in
    omega (arith, ap length aad, aad_short c.args.note.now.context c.args.note.now.number c.requires.id)
