use Rattle.osc_token.proofs.LengthLemmas.{material_counted}
use Rattle.osc_token.proofs.lengths.material_len.Goals as goal

pub returns : goal.returns
returns c =
    material_counted c.args.material.now c.bytes_len.result c.bytes_len-2.result c.alg_len.result c.salt_len.result c.id_context_len.result
    c.saturating_add.result c.saturating_add-2.result c.saturating_add-3.result c.saturating_add-4.result c.saturating_add-5.result
    c.bytes_len.ensures c.bytes_len-2.ensures c.alg_len.ensures c.salt_len.ensures c.id_context_len.ensures
    c.saturating_add.ensures c.saturating_add-2.ensures c.saturating_add-3.ensures c.saturating_add-4.ensures c.saturating_add-5.ensures
