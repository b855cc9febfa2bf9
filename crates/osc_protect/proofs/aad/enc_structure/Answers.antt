use Rattle.std.proofs.Common.{refl}
use Rattle.osc_protect.proofs.AadLemmas.{aad_of_is}
use Rattle.osc_protect.proofs.aad.enc_structure.Goals as goal

pub returns-clause-value : goal.returns-clause-value
returns-clause-value c =
    let first = rw c.unwrap.ensures at c.try_extend_from_slice.ensures.ok in
    rw (aad_of_is c.args.name.now c.args.number, c.append_string.ensures.value, first, c.new-out.ensures, c.as_slice.ensures.value, c.external_aad-external.ensures.value) refl
