use Rattle.std.proofs.Common.{ℕ, ◌+◌, List, length, drop, refl, ap, ◌∙◌, arith}
use Rattle.std.proofs.lemmas.Bool.{both_ways}
use Rattle.osc_coap.specs.{plaintext_spelling, last_number, with_inner_option}
use Rattle.osc_coap.specs.Plaintext.{Plaintext}
use Rattle.osc_options.specs.Inner.Merging.{with_inner_options}
use Rattle.osc_options.specs.{each}
use Rattle.osc_options.proofs.AddLaws.{refused, last_number-push}
use Rattle.osc_options.proofs.WrittenPlaintextLaws.{IsAt, each_more, each_front}
use Rattle.osc_options.proofs.written_plaintext.add_tags.Goals as goal

pub returns-in_err-option-clause-variant : goal.returns-in_err-option-clause-variant
returns-in_err-option-clause-variant c =
    let tags = c.as_slice-tag-items.result.now in
    let message = c.loop-tag.plaintext in
    let at : IsAt tags c.loop-tag.tag-index c.tag-item.result = (c.loop-tag-test.true, c.tag-item.is) in
    let front = each_front c.length_of_plaintext.ensures message _ 1 tags c.loop-tag.tag-index c.tag-item.result at c.loop-tag.invariant.whole in
    let same = ap (λ (value : List ℕ). length (plaintext_spelling (with_inner_option message 1 value))) c.as_slice.ensures in
    refused c.from_residual.result c.from_residual.ensures.0 (λ fits. both_ways _ refl (c.in_err-option.ensures.variant.1 (omega (arith, fits, front, same))))

pub loop-tag-preserved : goal.loop-tag-preserved
loop-tag-preserved c =
    let kept = c.loop-tag.invariant in
    let message = c.loop-tag.plaintext in
    let tags = c.as_slice-tag-items.result.now in
    let at : IsAt tags c.loop-tag.tag-index c.tag-item.result = (c.loop-tag-test.true, c.tag-item.is) in
    let grown = c.in_ok-option.ensures.ok ∙ ap (λ (value : List ℕ). with_inner_option message 1 value) c.as_slice.ensures in
    let last = ap (λ (m : Plaintext). last_number 0 m.options) grown ∙ last_number-push 0 message.options (1, c.tag-item.result) in
    record {
      whole = ap (λ (m : Plaintext). with_inner_options m (each 1 (drop (c.loop-tag.tag-index + 1) tags))) grown ∙ each_more message 1 tags c.loop-tag.tag-index c.tag-item.result at ∙ kept.whole;
      first = rw grown kept.first;
      order = omega (arith, last);
    }
