use Rattle.std.proofs.Common.{ℕ, ◌∙◌, replicate}
use Rattle.osc_coap.proofs.BuildLaws.{either, on_ok, kept, opened, payload_whole, payload_spells, message_in-spelling}
use Rattle.osc_coap.proofs.builder.MessageBuilder.write_payload.Goals as goal

pub invariant_of-self : goal.invariant_of-self
invariant_of-self g c =
    let is = opened c.self.inside c.args.self.now c.self.invariant c.self.view_is c.requires.first in
    either c.write_payload.result c.write_payload.ensures.ok c.write_payload.ensures.err
    (λ ok e. kept _ _ (payload_spells _ _ _ c.args.self.now e.0 is c.requires.code e.3) (e.4 ∙ is.last_is))
    (λ e. rw e c.self.invariant)

pub returns-clause-variant : goal.returns-clause-variant
returns-clause-variant g c =
    let is = opened c.self.inside c.args.self.now c.self.invariant c.self.view_is c.requires.first in
    let whole = payload_whole _ _ c.args.self.now (replicate {A = ℕ} c.args.size 0) is in
    rw whole c.write_payload.ensures.variant

pub returns-clause-ok : goal.returns-clause-ok
returns-clause-ok g c =
    let is = opened c.self.inside c.args.self.now c.self.invariant c.self.view_is c.requires.first in
    on_ok c.write_payload.result (λ ok e. (e.0, e.1, e.2, message_in-spelling _ _ (payload_spells _ _ _ c.args.self.now e.0 is c.requires.code e.3))) c.write_payload.ensures.ok
