use Rattle.std.proofs.Common.{sym, ◌∙◌}
use Rattle.osc_cbor.specs.Inner.Tokens.{Token}
use Rattle.osc_cbor.proofs.LentLaws.{stands_token, stands_read, two_token, two_inside, one_stands, other_stands, two_read}
use Rattle.osc_cbor.proofs.lent.two_inside.Goals.{then-token-number-via-then-token-number, then-token-number-via-else-token-number+then-token-ne2}
use Rattle.osc_cbor.proofs.lent.two_inside.Goals as goal

pub returns-in_default-clause-none : goal.returns-in_default-clause-none
returns-in_default-clause-none c = λ a b rest read. stands_token c.args.bytes.now c.requires c.in_default.field-0 c.in_default.ensures

pub returns-then-token-number-clause-none : goal.returns-then-token-number-clause-none
returns-then-token-number-clause-none c = λ a b rest read.
    let t : Token = (c.in-Ok.token.0, c.in-Ok.token.1, c.in-Ok.token.2.now) in
    let is = two_token c.args.bytes.now c.requires t c.in-Ok.inner.now c.in-Ok.ensures a b rest read in
    elim c.then-token-number.branch [
      | then-token-number-via-then-token-number w ↦ w.if-token-number.true (is.0 ∙ sym c.number.ensures)
      | then-token-number-via-else-token-number+then-token-ne2 w ↦ w.if-token-ne2.true is.1
    ]

pub first_item-first-requires : goal.first_item-first-requires
first_item-first-requires c =
    let t : Token = (c.in-Ok.token.0, c.in-Ok.token.1, c.in-Ok.token.2.now) in
    let x = two_inside c.args.bytes.now c.requires t c.in-Ok.inner.now c.in-Ok.ensures (c.if-token-number.false ∙ c.number.ensures) c.if-token-ne2.false in
    one_stands c.requires.first c.in-Ok.inner.now c.requires.rest x c.requires.shallow

pub first_item-second-requires : goal.first_item-second-requires
first_item-second-requires c =
    let t : Token = (c.in-Ok.token.0, c.in-Ok.token.1, c.in-Ok.token.2.now) in
    let x = two_inside c.args.bytes.now c.requires t c.in-Ok.inner.now c.in-Ok.ensures (c.if-token-number.false ∙ c.number.ensures) c.if-token-ne2.false in
    other_stands c.requires.first c.in-Ok.inner.now c.requires.rest x c.requires.shallow c.first_item-first.result.0 c.first_item-first.result.1.now c.first_item-first.ensures

pub returns-clause-two : goal.returns-clause-two
returns-clause-two c =
    let t : Token = (c.in-Ok.token.0, c.in-Ok.token.1, c.in-Ok.token.2.now) in
    let x = two_inside c.args.bytes.now c.requires t c.in-Ok.inner.now c.in-Ok.ensures (c.if-token-number.false ∙ c.number.ensures) c.if-token-ne2.false in
    stands_read c.args.bytes.now c.requires
    ∙ two_read c.requires.first c.in-Ok.inner.now c.requires.rest x c.requires.shallow c.first_item-first.result.0 c.first_item-first.result.1.now c.first_item-second.result.0 c.first_item-second.result.1.now c.first_item-first.ensures c.first_item-second.ensures
