use Rattle.osc_token.specs.{material_item}
use Rattle.osc_token.proofs.LengthLemmas.{confirmation_counted}
use Rattle.osc_token.proofs.lengths.confirmation_len.Goals as goal

pub returns : goal.returns
returns c =
    confirmation_counted (material_item c.args.material.now) c.material_len.result c.number_len.result c.number_len-2.result c.saturating_add.result
    c.material_len.ensures c.number_len.ensures.value c.number_len-2.ensures.value c.number_len.ensures.short c.number_len-2.ensures.short
    c.saturating_add.ensures
