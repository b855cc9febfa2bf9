use Rattle.std.proofs.Common.{ap, arith, length}
use Rattle.osc_cbor.specs.{head}
use Rattle.osc_cose.proofs.StructureLemmas.{enc_structure_is, enc_structure_length, appended_parts}
use Rattle.osc_cose.proofs.structure.enc_structure.Goals as goal

pub returns-in_default-clause-room : goal.returns-in_default-clause-room
returns-in_default-clause-room c =
    let l = enc_structure_length c.args.protected.now c.args.external_aad.now in
    let p = ap length c.head-protected_head.ensures.spelled in
    let e = ap length c.head-external_head.ensures.spelled in
    λ room. absurd (c.in_default.ensures (omega (arith, p, e, l, room)))

pub returns-in_err-reserve-clause-room : goal.returns-in_err-reserve-clause-room
returns-in_err-reserve-clause-room c =
    let l = enc_structure_length c.args.protected.now c.args.external_aad.now in
    let p = ap length c.head-protected_head.ensures.spelled in
    let e = ap length c.head-external_head.ensures.spelled in
    λ room. absurd (omega (arith, p, e, l, room, c.in_err-reserve.ensures.full))

pub returns-clause-ok : goal.returns-clause-ok
returns-clause-ok c =
    let p = c.args.protected.now in
    let e = c.args.external_aad.now in
    let q = appended_parts c.args.out.now.items (head 2 (length p)) p (head 2 (length e)) e in
    rw (enc_structure_is p e) cc
