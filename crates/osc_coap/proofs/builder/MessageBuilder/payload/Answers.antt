use Rattle.std.proofs.Common.{◌∙◌}
use Rattle.osc_coap.proofs.BuildLaws.{either, on_ok, kept, opened, payload_whole, payload_spells, message_in-spelling}
use Rattle.osc_coap.proofs.builder.MessageBuilder.payload.Goals as goal

pub invariant_of-self : goal.invariant_of-self
invariant_of-self c =
    let is = opened c.self.inside c.args.self.now c.self.invariant c.self.view_is c.requires.first in
    either c.payload.result c.payload.ensures.ok c.payload.ensures.err
    (λ ok e. kept _ _ (payload_spells _ _ _ c.args.self.now c.args.payload.now is c.requires.code e.0) (e.1 ∙ is.last_is))
    (λ e. rw e c.self.invariant)

pub returns-clause-variant : goal.returns-clause-variant
returns-clause-variant c =
    let is = opened c.self.inside c.args.self.now c.self.invariant c.self.view_is c.requires.first in
    let whole = payload_whole _ _ c.args.self.now c.args.payload.now is in
    rw whole c.payload.ensures.variant

pub returns-clause-ok : goal.returns-clause-ok
returns-clause-ok c =
    let is = opened c.self.inside c.args.self.now c.self.invariant c.self.view_is c.requires.first in
    on_ok c.payload.result (λ ok e. message_in-spelling _ _ (payload_spells _ _ _ c.args.self.now c.args.payload.now is c.requires.code e.0)) c.payload.ensures.ok
