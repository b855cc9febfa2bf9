use Rattle.std.proofs.Common.{ap, ◌∙◌}
use Rattle.osc_cbor.specs.{item_in}
use Rattle.osc_cbor.specs.Parts as part
use Rattle.osc_cbor.proofs.LentLaws.{items_if, array_is}
use Rattle.osc_cbor.proofs.lent.ItemRef.as_array.Goals as goal

pub returns : goal.returns
returns c =
    let token = c.opened.result.0 in
    let inner = c.opened.result.1.now in
    let d = item_in c.self.inside.bytes.now in
    let (ds, is, counted, spelled) = items_if token.1 token.2.now inner d token.0 (c.opened.ensures d c.self.invariant.spelled) (c.if-token-number.false ∙ c.number.ensures) in
    rw c.new.ensures (array_is d ds token.1 inner is counted spelled c.self.invariant.shallow ∙ ap part.as_array c.self.view_is)
