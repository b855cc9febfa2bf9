use Rattle.std.proofs.Common.{Ok, sym, ap, ◌∙◌}
use Rattle.osc_token.proofs.JudgingLemmas as judging
use Rattle.osc_token.proofs.judging.judge_claims.Goals as goal

pub returns-in_default-clause-judged : goal.returns-in_default-clause-judged
returns-in_default-clause-judged c = λ text is.
    let b = c.in-Ok.ensures.bound in
    judging.no_scope _ _ _ _ is _ b.dates_are b.begun b.not_over b.addressed _ b.material_is
    (judging.without_bytes c.args.claims.now (sym c.in_default.ensures))

pub returns-in_ok-claims-in-Some-2-clause-judged :
    goal.returns-in_ok-claims-in-Some-2-clause-judged
returns-in_ok-claims-in-Some-2-clause-judged c = λ text is.
    let b = c.in-Ok.ensures.bound in
    let s = judging.scope_of_bytes c.args.claims.now c.in-Some.bytes.now (sym c.in-Some.ensures) c.from_cbor.result c.scope_found.result
    c.scope_found.ensures.answer c.in-Some-2.scope (c.in_ok-scope.was ∙ ap Ok c.in-Some-2.is) c.from_cbor.ensures.found in
    judging.granted _ _ _ _ is _ b.dates_are b.begun b.not_over b.addressed _ b.material_is c.in-Some.bytes.now s.0 _ _ s.1
    c.in_ok-claims-in-Some-2.ensures s.2

pub returns-in-None-clause-judged : goal.returns-in-None-clause-judged
returns-in-None-clause-judged c = λ text is.
    let b = c.in-Ok.ensures.bound in
    judging.no_scope _ _ _ _ is _ b.dates_are b.begun b.not_over b.addressed _ b.material_is
    (judging.no_scope_bytes c.args.claims.now c.in-Some.bytes.now (sym c.in-Some.ensures) c.from_cbor.result c.scope_found.result
    c.scope_found.ensures.answer (c.in_ok-scope.was ∙ ap Ok c.in-None.is) c.scope_found.ensures.memory c.from_cbor.ensures.only)
