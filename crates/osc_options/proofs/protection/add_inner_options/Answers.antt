use Rattle.std.proofs.Common.{◌≡◌, ℕ, List, length, refl, sym, ap, subst, ◌∙◌, arith}
use Rattle.std.proofs.lemmas.Bool.{both_ways}
use Rattle.osc_coap.specs.{NumberAndValue, plaintext_spelling, last_number, with_inner_option}
use Rattle.osc_coap.specs.Plaintext.{Plaintext}
use Rattle.osc_options.specs.Inner.Merging.{with_inner_options}
use Rattle.osc_options.specs.{AreInOrder}
use Rattle.osc_options.proofs.AddLaws.{refused, last_number-push, with_inner_options-more, inner_options_front}
use Rattle.osc_options.proofs.protection.add_inner_options.Goals as goal

pub loop-number-preserved : goal.loop-number-preserved
loop-number-preserved c =
    let kept = c.loop-number.invariant in
    let plaintext = c.loop-number.plaintext in
    let rest = c.next.new.self in
    let grown = c.in_ok-option.ensures.ok in
    let steps = c.in-Some.ensures.steps in
    let order = subst (λ (options : List NumberAndValue). AreInOrder (last_number 0 plaintext.options) options) steps kept.order in
    let last = ap (λ (p : Plaintext). last_number 0 p.options) grown ∙ last_number-push 0 plaintext.options (c.in-Some.number, c.in-Some.value.now) in
    record {
      whole = ap (λ (p : Plaintext). with_inner_options p rest) grown ∙ with_inner_options-more plaintext c.in-Some.number c.in-Some.value.now rest ∙ ap (with_inner_options plaintext) (sym steps) ∙ kept.whole;
      first = rw grown kept.first;
      order = subst (λ (n : ℕ). AreInOrder n rest) (sym last) order.1;
    }

pub returns-in_err-option-clause-variant : goal.returns-in_err-option-clause-variant
returns-in_err-option-clause-variant c =
    let plaintext = c.loop-number.plaintext in
    let grown = with_inner_option plaintext c.in-Some.number c.in-Some.value.now in
    let front = inner_options_front c.length_of_plaintext.ensures grown c.next.new.self in
    let whole : with_inner_options grown c.next.new.self ≡ with_inner_options c.args.plaintext.now c.args.options =
    with_inner_options-more plaintext c.in-Some.number c.in-Some.value.now c.next.new.self ∙ ap (with_inner_options plaintext) (sym c.in-Some.ensures.steps) ∙ c.loop-number.invariant.whole in
    let same = ap (λ (p : Plaintext). length (plaintext_spelling p)) whole in
    refused c.from_residual.result c.from_residual.ensures.0 (λ fits. both_ways _ refl (c.in_err-option.ensures.variant.1 (omega (arith, fits, front, same))))
