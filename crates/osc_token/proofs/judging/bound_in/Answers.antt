use Rattle.std.proofs.Common.{sym, ◌∙◌}
use Rattle.std.proofs.lemmas.Bool.{false≢true, iff_false}
use Rattle.osc_token.proofs.JudgingLemmas as judging
use Rattle.osc_token.proofs.judging.bound_in.Goals as goal

pub returns-in_default-clause-refused : goal.returns-in_default-clause-refused
returns-in_default-clause-refused c = λ text is.
    judging.no_claims text c.args.audience.now c.args.now c.args.claims.now is (sym c.dates_in.ensures ∙ c.in_default.is)

pub returns-then-not-has_begun-clause-refused : goal.returns-then-not-has_begun-clause-refused
returns-then-not-has_begun-clause-refused c = λ text is.
    judging.not_yet text c.args.audience.now c.args.now c.args.claims.now is c.in-Some.dates (sym c.dates_in.ensures ∙ c.in-Some.is)
    (iff_false c.has_begun.ensures c.if-not-has_begun.true)

pub returns-then-is_over-clause-refused : goal.returns-then-is_over-clause-refused
returns-then-is_over-clause-refused c = λ text is.
    judging.expired text c.args.audience.now c.args.now c.args.claims.now is c.in-Some.dates (sym c.dates_in.ensures ∙ c.in-Some.is)
    (c.has_begun.ensures.0 c.if-not-has_begun.false)
    (λ not_over. false≢true (sym (c.is_over.ensures.1 not_over) ∙ c.if-is_over.true))

pub returns-then-not-is_for-clause-refused : goal.returns-then-not-is_for-clause-refused
returns-then-not-is_for-clause-refused c = λ text is.
    judging.for_another text c.args.audience.now c.args.now c.args.claims.now is c.in-Some.dates (sym c.dates_in.ensures ∙ c.in-Some.is)
    (c.has_begun.ensures.0 c.if-not-has_begun.false)
    (c.is_over.ensures.0 c.if-is_over.false)
    (iff_false c.is_for.ensures c.if-not-is_for.true)

pub returns-in-None-clause-refused : goal.returns-in-None-clause-refused
returns-in-None-clause-refused c = λ text is.
    judging.no_material text c.args.audience.now c.args.now c.args.claims.now is c.in-Some.dates (sym c.dates_in.ensures ∙ c.in-Some.is)
    (c.has_begun.ensures.0 c.if-not-has_begun.false)
    (c.is_over.ensures.0 c.if-is_over.false)
    (c.is_for.ensures.0 c.if-not-is_for.false)
    (sym c.material_in.ensures ∙ c.in-None.is)
