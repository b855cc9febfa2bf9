use Rattle.std.proofs.Common.{refl}
use Rattle.osc_coap.proofs.PlaintextLaws.{kept, bare_spells, plaintext_in-spelling}
use Rattle.osc_coap.proofs.plaintext.PlaintextBuilder.restart.Goals as goal

pub invariant_of-self : goal.invariant_of-self
invariant_of-self c = kept _ _ (bare_spells _ c.args.code (rw (c.push.ensures.items, c.clear.ensures) refl)) refl

pub returns : goal.returns
returns c = plaintext_in-spelling _ _ (bare_spells _ c.args.code (rw (c.push.ensures.items, c.clear.ensures) refl))
