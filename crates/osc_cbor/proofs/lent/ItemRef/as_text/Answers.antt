use Rattle.std.proofs.Common.{◌∙◌}
use Rattle.osc_cbor.specs.{item_in}
use Rattle.osc_cbor.proofs.LentLaws.{text_is}
use Rattle.osc_cbor.proofs.lent.ItemRef.as_text.Goals as goal

pub from_utf8_unchecked-requires : goal.from_utf8_unchecked-requires
from_utf8_unchecked-requires c =
    let token = c.opened.result.0 in
    let bytes = c.self.inside.bytes.now in
    text_is bytes (item_in bytes) token.0 token.1 token.2.now c.opened.result.1.now c.self.invariant.spelled (c.opened.ensures (item_in bytes) c.self.invariant.spelled) (c.if-token-number.false ∙ c.number.ensures)
