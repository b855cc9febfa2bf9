use Rattle.std.proofs.Common.{◌≡◌, ℕ, List, length, refl, sym, ap, subst, ◌∙◌, arith}
use Rattle.std.proofs.lemmas.Bool.{both_ways}
use Rattle.osc_coap.specs.{NumberAndValue, spelling, last_number, with_option}
use Rattle.osc_coap.specs.Message.{Message}
use Rattle.osc_options.specs.Inner.Merging.{with_options}
use Rattle.osc_options.specs.{AreInOrder}
use Rattle.osc_options.proofs.AddLaws.{refused, last_number-push, with_options-more, options_front}
use Rattle.osc_options.proofs.protection.add_options.Goals as goal

pub loop-number-preserved : goal.loop-number-preserved
loop-number-preserved c =
    let kept = c.loop-number.invariant in
    let message = c.loop-number.message in
    let rest = c.next.new.self in
    let grown = c.in_ok-option.ensures.ok in
    let steps = c.in-Some.ensures.steps in
    let order = subst (λ (options : List NumberAndValue). AreInOrder (last_number 0 message.options) options) steps kept.order in
    let last = ap (λ (m : Message). last_number 0 m.options) grown ∙ last_number-push 0 message.options (c.in-Some.number, c.in-Some.value.now) in
    record {
      whole = ap (λ (m : Message). with_options m rest) grown ∙ with_options-more message c.in-Some.number c.in-Some.value.now rest ∙ ap (with_options message) (sym steps) ∙ kept.whole;
      code = rw grown kept.code;
      first = rw grown kept.first;
      order = subst (λ (n : ℕ). AreInOrder n rest) (sym last) order.1;
    }

pub returns-in_err-option-clause-variant : goal.returns-in_err-option-clause-variant
returns-in_err-option-clause-variant c =
    let message = c.loop-number.message in
    let grown = with_option message c.in-Some.number c.in-Some.value.now in
    let front = options_front c.length_of_spelling.ensures.exact grown c.next.new.self in
    let whole : with_options grown c.next.new.self ≡ with_options c.args.message.now c.args.options =
    with_options-more message c.in-Some.number c.in-Some.value.now c.next.new.self ∙ ap (with_options message) (sym c.in-Some.ensures.steps) ∙ c.loop-number.invariant.whole in
    let same = ap (λ (m : Message). length (spelling m)) whole in
    refused c.from_residual.result c.from_residual.ensures.0 (λ fits. both_ways _ refl (c.in_err-option.ensures.variant.1 (omega (arith, fits, front, same))))
