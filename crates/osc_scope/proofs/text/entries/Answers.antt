use Rattle.std.proofs.Common.{rules, tests, ◌==◌, subst}
use Rattle.std.proofs.lemmas.Iterator.{YieldsList}
use Rattle.std.proofs.lemmas.Iterator.Consumers.{YieldsList-at, YieldsList-turn, YieldsList-end}
use Rattle.std.proofs.lemmas.Iterator.Splits.{YieldsList-from_slice_split}
use Rattle.osc_cbor.specs.{items_view}
use Rattle.osc_scope.specs.{Says}
use Rattle.osc_scope.proofs.Parting.{cut}
use Rattle.osc_scope.proofs.TextLemmas.{says_more, no_entry_text}
use Rattle.osc_scope.proofs.text.entries.Goals.{At-loop-part}
use Rattle.osc_scope.proofs.text.entries.Goals as goal
use Rattle.osc_scope.proofs.text.entries.Given as given

-- the loop goes over the parts
road : (c : At-loop-part) → YieldsList (given.iterator-loop-part).next_gives (λ x. x.now) c.into_iter-part-iterator.result (cut 44 c.args.text.now)
road c =
    YieldsList-at c.into_iter-part-iterator.ensures.into_iter_gives
    (YieldsList-from_slice_split _ (λ b. b == 44) c.args.text.now c.split-part-items.ensures.rest c.split-part-items.ensures.done c.split-part-items.ensures.closure (λ x r q k. search (rules, tests)))

pub returns-in_err-entry-clause-bad : goal.returns-in_err-entry-clause-bad
returns-in_err-entry-clause-bad c = λ e.
    let parts = road (goal.at.returns-in_err-entry-clause-bad c).At-loop-part in
    let turn = YieldsList-turn parts c.loop-part.yielded _ c.loop-part.yielded_by _ _ _ c.in-Some.is c.next.ensures.steps in
    no_entry_text (cut 44 c.args.text.now) _ c.in-Some.part.now turn (c.in_err-entry.ensures.bad (search rules))

pub loop-part-preserved : goal.loop-part-preserved
loop-part-preserved c = record {
  can_next = search rules;
  is_finite = tt;
  says = says_more c.loop-part.yielded c.in-Some.part c.loop-part.items.items c.push.new.self.items c.in_ok-entry.field-0 c.loop-part.invariant.says c.in_ok-entry.ensures.found c.in_ok-push.ensures.items;
}

pub returns-clause-found : goal.returns-clause-found
returns-clause-found c =
    let parts = road (goal.at.returns-clause-found c).At-loop-part in
    let end = YieldsList-end parts c.loop-part.yielded _ c.loop-part.yielded_by _ _ c.in-None.is c.next.ensures.steps in
    subst (λ parts. Says parts (items_view c.loop-part.items.items)) end.0 c.loop-part.invariant.says
