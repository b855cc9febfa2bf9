use Rattle.std.proofs.Common.{ap, ◌∙◌}
use Rattle.osc_cbor.specs.{item_in}
use Rattle.osc_cbor.specs.Parts as part
use Rattle.osc_cbor.proofs.LentLaws.{item_in_is, whole_in, tag_if, inner_whole, tag_is}
use Rattle.osc_cbor.proofs.lent.ItemRef.as_tag.Goals as goal

pub invariant_of-result : goal.invariant_of-result
invariant_of-result c =
    let token = c.opened.result.0 in
    let inner = c.opened.result.1.now in
    let d = item_in c.self.inside.bytes.now in
    let (e, is, spelled) = tag_if token.1 token.2.now inner d token.0 (c.opened.ensures d c.self.invariant.spelled) (c.if-token-number.false ∙ c.number.ensures) in
    whole_in inner e (inner_whole d e token.1 inner is spelled c.self.invariant.shallow)

pub returns : goal.returns
returns c =
    let token = c.opened.result.0 in
    let inner = c.opened.result.1.now in
    let d = item_in c.self.inside.bytes.now in
    let (e, is, spelled) = tag_if token.1 token.2.now inner d token.0 (c.opened.ensures d c.self.invariant.spelled) (c.if-token-number.false ∙ c.number.ensures) in
    tag_is d token.1 e (item_in inner) is (item_in_is inner e (inner_whole d e token.1 inner is spelled c.self.invariant.shallow)) ∙ ap part.as_tag c.self.view_is
