use Rattle.std.proofs.Common.{refl, arith}
use Rattle.osc_coap.specs.{bare}
use Rattle.osc_coap.proofs.BuildLaws.{kept, lawful_bare, message_in-spelling}
use Rattle.osc_coap.proofs.builder.MessageBuilder.restart.Goals as goal

pub invariant_of-self : goal.invariant_of-self
invariant_of-self c =
    let m = bare c.args.kind c.args.code c.args.id c.args.token.now in
    kept _ m (record { lawful = lawful_bare _ _ _ _ (omega arith) c.requires.size c.requires.empty; whole = c.write_header.ensures }) refl

pub returns : goal.returns
returns c =
    let m = bare c.args.kind c.args.code c.args.id c.args.token.now in
    message_in-spelling _ m (record { lawful = lawful_bare _ _ _ _ (omega arith) c.requires.size c.requires.empty; whole = c.write_header.ensures })
