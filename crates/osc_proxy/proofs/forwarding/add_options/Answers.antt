use Rattle.std.proofs.Common.{◌≡◌, ℕ, List, length, refl, sym, ap, subst, ◌∙◌, arith}
use Rattle.std.proofs.lemmas.Bool.{both_ways}
use Rattle.osc_coap.specs.{NumberAndValue, spelling, last_number, with_option}
use Rattle.osc_coap.specs.Message.{Message}
use Rattle.osc_options.specs.Inner.Merging.{with_options}
use Rattle.osc_options.specs.{AreInOrder}
use Rattle.osc_proxy.specs.Inner.Rewriting.{staying}
use Rattle.osc_proxy.proofs.AddLaws.{refused, last_number-push, with_options-more, options_front}
use Rattle.osc_proxy.proofs.OptionLaws.{one_stays}
use Rattle.osc_proxy.proofs.forwarding.add_options.Goals as goal

pub loop-number-preserved-in-Continue-1 : goal.loop-number-preserved-in-Continue-1
loop-number-preserved-in-Continue-1 c =
    let before = c.loop-number.invariant in
    let message = c.loop-number.message in
    let rest = staying c.args.rewriting c.next.new.self in
    let grown = c.in_ok-option.ensures.ok in
    let taken = one_stays c.args.rewriting c.in-Some.number c.in-Some.value.now c.next.new.self c.loop-number.number-iterator c.in-Some.ensures.steps (sym c.is_kept.ensures ∙ c.if-is_kept.true) in
    let order = subst (λ (options : List NumberAndValue). AreInOrder (last_number 0 message.options) options) taken before.order in
    let last = ap (λ (m : Message). last_number 0 m.options) grown ∙ last_number-push 0 message.options (c.in-Some.number, c.in-Some.value.now) in
    record {
      whole = ap (λ (m : Message). with_options m rest) grown ∙ with_options-more message c.in-Some.number c.in-Some.value.now rest ∙ ap (with_options message) (sym taken) ∙ before.whole;
      code = rw grown before.code;
      first = rw grown before.first;
      order = subst (λ (n : ℕ). AreInOrder n rest) (sym last) order.1;
    }

pub returns-in_err-option-clause-variant : goal.returns-in_err-option-clause-variant
returns-in_err-option-clause-variant c =
    let message = c.loop-number.message in
    let rest = staying c.args.rewriting c.next.new.self in
    let grown = with_option message c.in-Some.number c.in-Some.value.now in
    let taken = one_stays c.args.rewriting c.in-Some.number c.in-Some.value.now c.next.new.self c.loop-number.number-iterator c.in-Some.ensures.steps (sym c.is_kept.ensures ∙ c.if-is_kept.true) in
    let front = options_front c.length_of_spelling.ensures.exact grown rest in
    let whole : with_options grown rest ≡ with_options c.args.message.now (staying c.args.rewriting c.args.options) =
    with_options-more message c.in-Some.number c.in-Some.value.now rest ∙ ap (with_options message) (sym taken) ∙ c.loop-number.invariant.whole in
    let same = ap (λ (m : Message). length (spelling m)) whole in
    refused c.from_residual.result c.from_residual.ensures.0 (λ fits. both_ways _ refl (c.in_err-option.ensures.variant.1 (omega (arith, fits, front, same))))
