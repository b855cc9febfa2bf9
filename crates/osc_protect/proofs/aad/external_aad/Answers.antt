use Rattle.std.proofs.Common.{refl}
use Rattle.osc_protect.proofs.AadLemmas.{external_aad_is}
use Rattle.osc_protect.proofs.aad.external_aad.Goals as goal

pub returns-clause-value : goal.returns-clause-value
returns-clause-value c =
    let first = rw c.unwrap.ensures at c.try_extend_from_slice.ensures.ok in
    rw (external_aad_is c.args.name.now c.args.number, c.append_string-3.ensures.value, c.append_string-2.ensures.value, c.append_string.ensures.value, c.append_algorithm.ensures.value, first, c.new-out.ensures, c.as_slice-2.ensures.value, c.partial_iv_of.ensures.value, c.as_slice.ensures) refl
