use Rattle.osc_cbor.proofs.LentLaws.{opens}
use Rattle.osc_cbor.proofs.TokenLaws.{token_there}
use Rattle.osc_cbor.proofs.lent.opened.Goals as goal

pub unreachable-requires : goal.unreachable-requires
unreachable-requires c = token_there c.args.bytes.now c.requires.0 c.in-Err.field-0 c.requires.1 c.in-Err.ensures

pub returns : goal.returns
returns c = λ d s.
    opens c.args.bytes.now d (c.in-Ok.found.0.0, c.in-Ok.found.0.1, c.in-Ok.found.0.2.now) c.in-Ok.found.1.now s c.in-Ok.ensures
