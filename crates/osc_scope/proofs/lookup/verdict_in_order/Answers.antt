use Rattle.std.proofs.Common.{List, ℕ, ◌∷◌, Option, subst, sym, ◌≡◌, ◌∙◌}
use Rattle.osc_model.specs.declared.code.Method.{Method}
use Rattle.osc_scope.specs.Inner.Kept.{IsPlaceOf}
use Rattle.osc_scope.specs.declared.verdict.Verdict.{Verdict}
use Rattle.osc_scope.specs.declared.verdict.Verdict.TheVariants.{NoPath}
use Rattle.osc_scope.proofs.LookupLemmas.{at_end, at_hit, is_path}
use Rattle.osc_scope.proofs.InOrder.{GoesOnInOrder, goes_on, starts, noted_in_order, ends}
use Rattle.osc_scope.proofs.lookup.verdict_in_order.Goals as goal

pub loop-entry-init : goal.loop-entry-init
loop-entry-init c =
    let entries = c.args.entries.now in
    let path = c.args.path.now in
    let at : IsPlaceOf path entries c.place_of.result = subst (λ (p : List ℕ). IsPlaceOf p entries c.place_of.result) c.text.ensures.text c.place_of.ensures in
    subst (λ (left : List (List ℕ × ℕ)). GoesOnInOrder entries left path c.from_code-method.result NoPath)
    (sym (c.into_iter-entry-iterator.ensures.into_iter_gives ∙ c.iter_from-entry-items.ensures))
    (starts entries c.place_of.result path c.from_code-method.result c.requires.lawful c.requires.in_order (sym c.requires.below) at)

-- the entries that are left, the first of them and the others
parted : (pairs all left : List (List ℕ × ℕ)) (path : List ℕ) (method : Option Method) (verdict : Verdict) (pair : List ℕ × ℕ) → all ≡ pair ∷ left
    → GoesOnInOrder pairs all path method verdict → GoesOnInOrder pairs (pair ∷ left) path method verdict
parted pairs all left path method verdict pair is on = subst (λ (left : List (List ℕ × ℕ)). GoesOnInOrder pairs left path method verdict) is on

pub has_path-requires-clause-is_path : goal.has_path-requires-clause-is_path
has_path-requires-clause-is_path c =
    let pair : List ℕ × ℕ = (c.in-Some.entry.0.now, c.in-Some.entry.1) in
    let on = parted c.args.entries.now c.loop-entry.entry-iterator c.next.new.self c.args.path.now c.from_code-method.result c.loop-entry.said pair c.in-Some.ensures.steps c.loop-entry.invariant in
    is_path c.args.entries.now c.next.new.self c.args.path.now c.from_code-method.result c.loop-entry.said pair
    (goes_on c.args.entries.now (pair ∷ c.next.new.self) c.args.path.now c.from_code-method.result c.loop-entry.said on)

pub returns-then-not-has_path : goal.returns-then-not-has_path
returns-then-not-has_path c =
    let pair : List ℕ × ℕ = (c.in-Some.entry.0.now, c.in-Some.entry.1) in
    let on = parted c.args.entries.now c.loop-entry.entry-iterator c.next.new.self c.args.path.now c.from_code-method.result c.loop-entry.said pair c.in-Some.ensures.steps c.loop-entry.invariant in
    at_end c.any_permission.ensures c.args.entries.now c.args.path.now c.args.code c.from_code-method.result c.loop-entry.said c.requires.lawful c.from_code-method.ensures
    (ends c.args.entries.now c.next.new.self c.args.path.now c.from_code-method.result c.loop-entry.said pair on c.paths_are_ordered.ensures.exact (sym c.if-not-has_path.ensures))

pub returns-then-has_named : goal.returns-then-has_named
returns-then-has_named c =
    let pair : List ℕ × ℕ = (c.in-Some.entry.0.now, c.in-Some.entry.1) in
    let on = parted c.args.entries.now c.loop-entry.entry-iterator c.next.new.self c.args.path.now c.from_code-method.result c.loop-entry.said pair c.in-Some.ensures.steps c.loop-entry.invariant in
    at_hit c.any_permission.ensures c.args.entries.now c.next.new.self c.args.path.now c.args.code c.from_code-method.result c.loop-entry.said pair
    c.requires.lawful c.from_code-method.ensures (sym c.if-not-has_path.ensures) (sym c.if-has_named.ensures)
    (goes_on c.args.entries.now (pair ∷ c.next.new.self) c.args.path.now c.from_code-method.result c.loop-entry.said on)

pub loop-entry-preserved : goal.loop-entry-preserved
loop-entry-preserved c =
    let pair : List ℕ × ℕ = (c.in-Some.entry.0.now, c.in-Some.entry.1) in
    let on = parted c.args.entries.now c.loop-entry.entry-iterator c.next.new.self c.args.path.now c.from_code-method.result c.loop-entry.said pair c.in-Some.ensures.steps c.loop-entry.invariant in
    noted_in_order c.args.entries.now c.next.new.self c.args.path.now c.from_code-method.result c.loop-entry.said pair on
    (sym c.if-not-has_path.ensures) (sym c.if-has_named.ensures)

pub returns : goal.returns
returns c =
    at_end c.any_permission.ensures c.args.entries.now c.args.path.now c.args.code c.from_code-method.result c.loop-entry.said c.requires.lawful c.from_code-method.ensures
    (goes_on c.args.entries.now _ c.args.path.now c.from_code-method.result c.loop-entry.said
    (subst (λ (left : List (List ℕ × ℕ)). GoesOnInOrder c.args.entries.now left c.args.path.now c.from_code-method.result c.loop-entry.said)
    c.in-None.ensures.steps.0 c.loop-entry.invariant))
