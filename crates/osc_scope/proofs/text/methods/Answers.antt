use Rattle.std.proofs.Common.{rules, tests, ◌==◌, subst, sym}
use Rattle.std.proofs.lemmas.Iterator.{YieldsList}
use Rattle.std.proofs.lemmas.Iterator.Consumers.{YieldsList-at, YieldsList-so_far, YieldsList-turn, YieldsList-end}
use Rattle.std.proofs.lemmas.Iterator.Splits.{YieldsList-from_slice_split}
use Rattle.osc_scope.specs.{Names}
use Rattle.osc_scope.proofs.Parting.{cut}
use Rattle.osc_scope.proofs.NameLemmas.{names_more, no_name, name_again}
use Rattle.osc_scope.proofs.text.methods.Goals.{At-loop-name}
use Rattle.osc_scope.proofs.text.methods.Goals as goal
use Rattle.osc_scope.proofs.text.methods.Given as given

-- the loop goes over the parts
road : (c : At-loop-name) → YieldsList (given.iterator-loop-name).next_gives (λ x. x.now) c.into_iter-name-iterator.result (cut 43 c.args.names.now)
road c =
    YieldsList-at c.into_iter-name-iterator.ensures.into_iter_gives
    (YieldsList-from_slice_split _ (λ b. b == 43) c.args.names.now c.split-name-items.ensures.rest c.split-name-items.ensures.done c.split-name-items.ensures.closure (λ x r q k. search (rules, tests)))

pub returns-in_err-method-clause-none : goal.returns-in_err-method-clause-none
returns-in_err-method-clause-none c =
    let parts = road (goal.at.returns-in_err-method-clause-none c).At-loop-name in
    let turn = YieldsList-turn parts c.loop-name.yielded _ c.loop-name.yielded_by _ _ _ c.in-Some.is c.next.ensures.steps in
    rw c.from_residual.ensures (λ methods apart e. no_name (cut 43 c.args.names.now) _ c.in-Some.name.now turn c.in_err-method.ensures methods e)

pub returns-then-has-clause-none : goal.returns-then-has-clause-none
returns-then-has-clause-none c =
    let parts = road (goal.at.returns-then-has-clause-none c).At-loop-name in
    let so_far = YieldsList-so_far parts c.loop-name.yielded _ c.loop-name.yielded_by in
    let turn = YieldsList-turn parts c.loop-name.yielded _ c.loop-name.yielded_by _ _ _ c.in-Some.is c.next.ensures.steps in
    name_again (cut 43 c.args.names.now) c.loop-name.yielded c.in-Some.name.now c.loop-name.mask c.in_ok-method.method
    c.loop-name.invariant.names (sym c.if-has.ensures) c.in_ok-method.ensures so_far turn

pub loop-name-preserved : goal.loop-name-preserved
loop-name-preserved c = record {
  can_next = search rules;
  is_finite = tt;
  names = rw c.bit_of-mask.ensures (names_more c.loop-name.yielded c.in-Some.name c.loop-name.mask c.in_ok-method.method c.loop-name.invariant.names (sym c.if-has.ensures) c.in_ok-method.ensures);
}

pub returns-clause-found : goal.returns-clause-found
returns-clause-found c =
    let parts = road (goal.at.returns-clause-found c).At-loop-name in
    let end = YieldsList-end parts c.loop-name.yielded _ c.loop-name.yielded_by _ _ c.in-None.is c.next.ensures.steps in
    subst (λ names. Names names c.loop-name.mask) end.0 c.loop-name.invariant.names
