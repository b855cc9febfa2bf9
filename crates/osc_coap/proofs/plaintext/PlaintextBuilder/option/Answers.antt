use Rattle.std.proofs.Common.{sym, ◌∙◌, length, subst, ℕ, ◌≤◌, List, arith}
use Rattle.osc_coap.proofs.BuildLaws.{either, on_ok, last_number-push}
use Rattle.osc_coap.proofs.PlaintextLaws.{kept, opened, option_whole, option_spells, plaintext_in-spelling}
use Rattle.osc_coap.proofs.plaintext.PlaintextBuilder.option.Goals as goal

pub invariant_of-self : goal.invariant_of-self
invariant_of-self c =
    let is = opened c.self.inside c.args.self.now c.self.invariant c.self.view_is c.requires.before_payload in
    either c.option.result c.option.ensures.ok c.option.ensures.err
    (λ ok e. kept _ _
    (option_spells _ _ _ c.args.self.now c.args.number c.args.value.now is c.requires.rises (omega arith) e.0 (subst (λ (t : List ℕ). length t ≤ 1152) (sym e.0) (c.option.ensures.variant.0 ok)))
    (e.1 ∙ sym (last_number-push 0 c.args.self.now.options (c.args.number, c.args.value.now))))
    (λ e. rw e c.self.invariant)

pub returns-clause-variant : goal.returns-clause-variant
returns-clause-variant c =
    let is = opened c.self.inside c.args.self.now c.self.invariant c.self.view_is c.requires.before_payload in
    let whole = option_whole _ _ c.args.self.now c.args.number c.args.value.now is in
    rw whole c.option.ensures.variant

pub returns-clause-ok : goal.returns-clause-ok
returns-clause-ok c =
    let is = opened c.self.inside c.args.self.now c.self.invariant c.self.view_is c.requires.before_payload in
    on_ok c.option.result
    (λ ok e. plaintext_in-spelling _ _ (option_spells _ _ _ c.args.self.now c.args.number c.args.value.now is c.requires.rises (omega arith) e.0 (subst (λ (t : List ℕ). length t ≤ 1152) (sym e.0) (c.option.ensures.variant.0 ok))))
    c.option.ensures.ok
