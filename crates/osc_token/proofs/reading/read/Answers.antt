use Rattle.std.proofs.Common.{IfOk, ◌∙◌, ap, subst}
use Rattle.osc_token.specs.{ComesTo}
use Rattle.osc_token.proofs.OpeningLemmas.{same_some, not_both}
use Rattle.osc_token.proofs.reading.read.Goals as goal

pub returns-in-Some-clause-judged : goal.returns-in-Some-clause-judged
returns-in-Some-clause-judged g c = λ protected iv text t.
    let is = same_some _ _ _ c.in-Some.is (c.in_ok-note.ensures.only protected iv text t) in
    let same = c.as_slice.ensures ∙ ap (λ x. x.plaintext) is in
    subst (λ x. IfOk c.judge.result (λ outcome. ComesTo x c.args.audience.now c.args.now outcome)) same c.judge.ensures.judged

pub returns-in-Some-clause-not_genuine : goal.returns-in-Some-clause-not_genuine
returns-in-Some-clause-not_genuine g c = λ none.
    let opened = rw c.in-Some.is at c.in_ok-note.ensures.opened in absurd (none opened.0 opened.1 opened.2 opened.3)

pub returns-in-None-clause-judged : goal.returns-in-None-clause-judged
returns-in-None-clause-judged g c = λ protected iv text t.
    absurd (not_both _ _ (c.in_ok-note.ensures.only protected iv text t) c.in-None.is)
