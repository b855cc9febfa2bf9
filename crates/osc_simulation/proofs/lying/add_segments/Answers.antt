use Rattle.std.proofs.Common.{rules, tests, ℕ, ◌==◌, ◌≡◌, [], ◌∷◌, ◌++◌, length, drop, sym, ap, subst, ◌∙◌, arith}
use Rattle.std.specs.Result.{OnOk}
use Rattle.std.proofs.lemmas.Iterator.{YieldsList}
use Rattle.std.proofs.lemmas.Iterator.Consumers.{YieldsList-at, YieldsList-turn, YieldsList-end}
use Rattle.std.proofs.lemmas.Iterator.Splits.{YieldsList-from_slice_split}
use Rattle.std.proofs.lemmas.List.{length_push}
use Rattle.osc_model.specs.{IsPath}
use Rattle.osc_coap.specs.{last_number, with_inner_option}
use Rattle.osc_coap.specs.Plaintext.{Plaintext}
use Rattle.osc_options.specs.Inner.Merging.{with_inner_options}
use Rattle.osc_model.specs.{segments_of}
use Rattle.osc_options.specs.{each}
use Rattle.osc_simulation.proofs.Segments.{some_path, behind_first, inner_more, inner_all, fits_within}
use Rattle.osc_simulation.proofs.lying.add_segments.Goals.{At-loop-segment}
use Rattle.osc_simulation.proofs.lying.add_segments.Goals as goal
use Rattle.osc_simulation.proofs.lying.add_segments.Given as given

pub slice_bounds-split-count : goal.slice_bounds-split-count
slice_bounds-split-count c = some_path c.text.result.now (subst IsPath (sym c.text.ensures.text) c.text.ensures.path)

pub slice_bounds-split-start : goal.slice_bounds-split-start
slice_bounds-split-start c =
    let some = some_path c.text.result.now (subst IsPath (sym c.text.ensures.text) c.text.ensures.path) in
    search rules

-- the loop goes over the segments
road : (c : At-loop-segment) → YieldsList (given.iterator-loop-segment).next_gives (λ x. x.now) c.into_iter-segment-iterator.result (segments_of c.args.path.now)
road c =
    YieldsList-at c.into_iter-segment-iterator.ensures.into_iter_gives
    (YieldsList-from_slice_split _ (λ b. b == 47) (drop 1 c.args.path.now) (c.split-segment-items.ensures.rest ∙ behind_first c.text.result.now ∙ ap (drop 1) c.text.ensures.text) c.split-segment-items.ensures.done c.split-segment-items.ensures.closure (λ x r q k. search (rules, tests)))

pub unwrap-requires : goal.unwrap-requires
unwrap-requires c =
    let parts = road (goal.at.unwrap-requires c).At-loop-segment in
    let turn = YieldsList-turn parts c.loop-segment.yielded _ c.loop-segment.yielded_by _ _ _ c.in-Some.is c.next.ensures.steps in
    c.option.ensures.variant.1
    (fits_within c.length_of_plaintext.ensures c.options_in_parts.ensures.length c.paths_are_cut_at_slashes.ensures c.args.plaintext.now c.args.path.now c.text.ensures.path c.requires c.loop-segment.plaintext (length c.loop-segment.yielded) c.in-Some.segment.now turn c.loop-segment.invariant.whole)

pub loop-segment-preserved : goal.loop-segment-preserved
loop-segment-preserved c =
    let parts = road (goal.at.loop-segment-preserved c).At-loop-segment in
    let turn = YieldsList-turn parts c.loop-segment.yielded _ c.loop-segment.yielded_by _ _ _ c.in-Some.is c.next.ensures.steps in
    let kept = c.loop-segment.invariant in
    let plaintext = c.loop-segment.plaintext in
    let grown : c.option.new.self ≡ with_inner_option plaintext 11 c.in-Some.segment.now = subst (λ r. OnOk r (c.option.new.self ≡ with_inner_option plaintext 11 c.in-Some.segment.now)) c.unwrap.ensures c.option.ensures.ok in
    let last = ap (λ (p : Plaintext). last_number 0 p.options) grown ∙ c.options_in_parts.ensures.last 0 plaintext.options ((11, c.in-Some.segment.now) ∷ []) in
    let segments = segments_of c.args.path.now in
    record {
      can_next = search rules;
      is_finite = tt;
      whole = ap (λ (p : Plaintext). with_inner_options p (each 11 (drop (length (c.loop-segment.yielded ++ c.in-Some.segment ∷ [])) segments))) grown
          ∙ ap (λ (n : ℕ). with_inner_options (with_inner_option plaintext 11 c.in-Some.segment.now) (each 11 (drop n segments))) (length_push c.loop-segment.yielded c.in-Some.segment)
          ∙ inner_more plaintext segments (length c.loop-segment.yielded) c.in-Some.segment.now turn ∙ kept.whole;
      first = rw grown kept.first;
      order = omega (arith, last);
    }

pub returns : goal.returns
returns c =
    let parts = road (goal.at.returns c).At-loop-segment in
    let end = YieldsList-end parts c.loop-segment.yielded _ c.loop-segment.yielded_by _ _ c.in-None.is c.next.ensures.steps in
    inner_all c.loop-segment.plaintext (segments_of c.args.path.now) (length c.loop-segment.yielded) end.1 ∙ c.loop-segment.invariant.whole
