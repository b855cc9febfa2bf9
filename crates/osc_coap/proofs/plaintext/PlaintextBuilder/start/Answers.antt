use Rattle.std.proofs.Common.{refl}
use Rattle.osc_coap.proofs.PlaintextLaws.{kept, bare_spells, plaintext_in-spelling}
use Rattle.osc_coap.proofs.plaintext.PlaintextBuilder.start.Goals as goal

pub invariant_of-result : goal.invariant_of-result
invariant_of-result c = kept _ _ (bare_spells _ c.args.code (rw (c.push.ensures.items, c.new-bytes.ensures) refl)) refl

pub returns : goal.returns
returns c = plaintext_in-spelling _ _ (bare_spells _ c.args.code (rw (c.push.ensures.items, c.new-bytes.ensures) refl))
