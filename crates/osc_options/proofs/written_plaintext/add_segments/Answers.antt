use Rattle.std.proofs.Common.{rules, tests, ℕ, ◌==◌, [], ◌∷◌, ◌++◌, length, drop, refl, sym, ap, subst, ◌∙◌, arith}
use Rattle.std.proofs.lemmas.Bool.{both_ways}
use Rattle.std.proofs.lemmas.Iterator.{YieldsList}
use Rattle.std.proofs.lemmas.Iterator.Consumers.{YieldsList-at, YieldsList-turn, YieldsList-end}
use Rattle.std.proofs.lemmas.Iterator.Splits.{YieldsList-from_slice_split}
use Rattle.std.proofs.lemmas.List.{length_push}
use Rattle.osc_model.specs.{IsPath}
use Rattle.osc_coap.specs.{plaintext_spelling, last_number, with_inner_option}
use Rattle.osc_coap.specs.Plaintext.{Plaintext}
use Rattle.osc_options.specs.Inner.Merging.{with_inner_options}
use Rattle.osc_model.specs.{segments_of}
use Rattle.osc_options.specs.{each}
use Rattle.osc_options.proofs.AddLaws.{refused, last_number-push}
use Rattle.osc_options.proofs.WrittenPlaintextLaws.{each_more, each_front, each_all, some_path, behind_first}
use Rattle.osc_options.proofs.written_plaintext.add_segments.Goals.{At-loop-segment}
use Rattle.osc_options.proofs.written_plaintext.add_segments.Goals as goal
use Rattle.osc_options.proofs.written_plaintext.add_segments.Given as given

pub slice_bounds-split-count : goal.slice_bounds-split-count
slice_bounds-split-count c = some_path c.text.result.now (subst IsPath (sym c.text.ensures.text) c.text.ensures.path)

pub slice_bounds-split-start : goal.slice_bounds-split-start
slice_bounds-split-start c =
    let some = some_path c.text.result.now (subst IsPath (sym c.text.ensures.text) c.text.ensures.path) in
    search rules

-- the loop goes over the segments
road : (c : At-loop-segment) → YieldsList (given.iterator-loop-segment).next_gives (λ x. x.now) c.into_iter-segment-iterator.result (segments_of c.args.path.now)
road c =
    YieldsList-at c.into_iter-segment-iterator.ensures.into_iter_gives
    (YieldsList-from_slice_split _ (λ b. b == 47) (drop 1 c.args.path.now) (c.split-segment-items.ensures.rest ∙ behind_first c.text.result.now ∙ ap (drop 1) c.text.ensures.text) c.split-segment-items.ensures.done c.split-segment-items.ensures.closure (λ x r q k. search (rules, tests)))

pub loop-segment-preserved : goal.loop-segment-preserved
loop-segment-preserved c =
    let parts = road (goal.at.loop-segment-preserved c).At-loop-segment in
    let turn = YieldsList-turn parts c.loop-segment.yielded _ c.loop-segment.yielded_by _ _ _ c.in-Some.is c.next.ensures.steps in
    let kept = c.loop-segment.invariant in
    let message = c.loop-segment.plaintext in
    let grown = c.in_ok-option.ensures.ok in
    let last = ap (λ (m : Plaintext). last_number 0 m.options) grown ∙ last_number-push 0 message.options (11, c.in-Some.segment.now) in
    let segments = segments_of c.args.path.now in
    record {
      can_next = search rules;
      is_finite = tt;
      whole = ap (λ (m : Plaintext). with_inner_options m (each 11 (drop (length (c.loop-segment.yielded ++ c.in-Some.segment ∷ [])) segments))) grown
          ∙ ap (λ (n : ℕ). with_inner_options (with_inner_option message 11 c.in-Some.segment.now) (each 11 (drop n segments))) (length_push c.loop-segment.yielded c.in-Some.segment)
          ∙ each_more message 11 segments (length c.loop-segment.yielded) c.in-Some.segment.now turn ∙ kept.whole;
      first = rw grown kept.first;
      order = omega (arith, last);
    }

pub returns-in_err-option-clause-variant : goal.returns-in_err-option-clause-variant
returns-in_err-option-clause-variant c =
    let parts = road (goal.at.returns-in_err-option-clause-variant c).At-loop-segment in
    let turn = YieldsList-turn parts c.loop-segment.yielded _ c.loop-segment.yielded_by _ _ _ c.in-Some.is c.next.ensures.steps in
    let segments = segments_of c.args.path.now in
    let front = each_front c.length_of_plaintext.ensures c.loop-segment.plaintext _ 11 segments (length c.loop-segment.yielded) c.in-Some.segment.now turn c.loop-segment.invariant.whole in
    refused c.from_residual.result c.from_residual.ensures.0 (λ fits. both_ways _ refl (c.in_err-option.ensures.variant.1 (omega (arith, fits, front))))

pub returns-clause-ok : goal.returns-clause-ok
returns-clause-ok c =
    let parts = road (goal.at.returns-clause-ok c).At-loop-segment in
    let end = YieldsList-end parts c.loop-segment.yielded _ c.loop-segment.yielded_by _ _ c.in-None.is c.next.ensures.steps in
    each_all c.loop-segment.plaintext 11 (segments_of c.args.path.now) (length c.loop-segment.yielded) end.1 ∙ c.loop-segment.invariant.whole

pub returns-clause-variant : goal.returns-clause-variant
returns-clause-variant c =
    let parts = road (goal.at.returns-clause-variant c).At-loop-segment in
    let end = YieldsList-end parts c.loop-segment.yielded _ c.loop-segment.yielded_by _ _ c.in-None.is c.next.ensures.steps in
    let whole = each_all c.loop-segment.plaintext 11 (segments_of c.args.path.now) (length c.loop-segment.yielded) end.1 ∙ c.loop-segment.invariant.whole in
    let spelled = ap length (c.one_plaintext.ensures.only _ _ c.bytes-bytes.ensures.spelled) ∙ ap (λ (m : Plaintext). length (plaintext_spelling m)) whole in
    (λ _. omega (arith, c.bytes-bytes.ensures.fits, spelled), λ _. refl)
