use Rattle.std.proofs.Common.{List, ℕ, subst, sym, ◌∙◌}
use Rattle.osc_scope.proofs.LookupLemmas.{GoesOn, at_end, at_hit, is_path, goes_below, passed, noted}
use Rattle.osc_scope.proofs.lookup.verdict_by.Goals as goal

pub has_path-requires-clause-is_path : goal.has_path-requires-clause-is_path
has_path-requires-clause-is_path g c =
    is_path c.args.entries.now c.next.new.self c.args.path.now c.from_code-method.result c.loop-entry.verdict (c.in-Some.entry.0.now, c.in-Some.entry.1)
    (subst (λ (left : List (List ℕ × ℕ)). GoesOn c.args.entries.now left c.args.path.now c.from_code-method.result c.loop-entry.verdict)
    c.in-Some.ensures.steps c.loop-entry.invariant)

pub has_path-requires-clause-below : goal.has_path-requires-clause-below
has_path-requires-clause-below g c = λ e.
    c.requires.below
    ∙ goes_below c.args.entries.now c.next.new.self c.args.path.now c.from_code-method.result c.loop-entry.verdict (c.in-Some.entry.0.now, c.in-Some.entry.1)
    (subst (λ (left : List (List ℕ × ℕ)). GoesOn c.args.entries.now left c.args.path.now c.from_code-method.result c.loop-entry.verdict)
    c.in-Some.ensures.steps c.loop-entry.invariant) e

pub returns-then-has_named : goal.returns-then-has_named
returns-then-has_named g c =
    at_hit c.any_permission.ensures c.args.entries.now c.next.new.self c.args.path.now c.args.code c.from_code-method.result c.loop-entry.verdict
    (c.in-Some.entry.0.now, c.in-Some.entry.1) c.requires.lawful c.from_code-method.ensures (sym c.if-has_path.ensures) (sym c.if-has_named.ensures)
    (subst (λ (left : List (List ℕ × ℕ)). GoesOn c.args.entries.now left c.args.path.now c.from_code-method.result c.loop-entry.verdict)
    c.in-Some.ensures.steps c.loop-entry.invariant)

pub loop-entry-preserved-then-has_path : goal.loop-entry-preserved-then-has_path
loop-entry-preserved-then-has_path g c =
    noted c.args.entries.now c.next.new.self c.args.path.now c.from_code-method.result c.loop-entry.verdict (c.in-Some.entry.0.now, c.in-Some.entry.1)
    (subst (λ (left : List (List ℕ × ℕ)). GoesOn c.args.entries.now left c.args.path.now c.from_code-method.result c.loop-entry.verdict)
    c.in-Some.ensures.steps c.loop-entry.invariant)
    (sym c.if-has_path.ensures) (sym c.if-has_named.ensures)

pub loop-entry-preserved : goal.loop-entry-preserved
loop-entry-preserved g c =
    passed c.args.entries.now c.next.new.self c.args.path.now c.from_code-method.result c.loop-entry.verdict (c.in-Some.entry.0.now, c.in-Some.entry.1)
    (subst (λ (left : List (List ℕ × ℕ)). GoesOn c.args.entries.now left c.args.path.now c.from_code-method.result c.loop-entry.verdict)
    c.in-Some.ensures.steps c.loop-entry.invariant)
    (sym c.if-has_path.ensures)

pub returns : goal.returns
returns g c =
    at_end c.any_permission.ensures c.args.entries.now c.args.path.now c.args.code c.from_code-method.result c.loop-entry.verdict c.requires.lawful c.from_code-method.ensures
    (subst (λ (left : List (List ℕ × ℕ)). GoesOn c.args.entries.now left c.args.path.now c.from_code-method.result c.loop-entry.verdict)
    c.in-None.ensures.steps.0 c.loop-entry.invariant)
