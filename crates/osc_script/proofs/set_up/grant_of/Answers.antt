use Rattle.std.proofs.Common.{ap, sym, ◌∙◌}
use Rattle.std.proofs.lemmas.Bool.{iff_false}
use Rattle.osc_script.specs.Inner.Reading.{client_in}
use Rattle.osc_script.proofs.GrantWords.{bad_client, bad_dates, bad_scope, too_long, grant_says}
use Rattle.osc_script.proofs.set_up.grant_of.Goals as goal

pub returns-in_default : goal.returns-in_default
returns-in_default c = λ line. bad_client _ c.args.scope_text.now _ line (sym c.in_default.is ∙ c.client.ensures ∙ ap client_in c.as_bytes.ensures.value)

pub returns-in_default-dates : goal.returns-in_default-dates
returns-in_default-dates c = λ line. bad_dates c.args.client_name.now c.args.scope_text.now _ _ _ line c.algorithm-alg.ensures (sym c.in_default-dates.is ∙ c.dates.ensures)

pub returns-in_default-2 : goal.returns-in_default-2
returns-in_default-2 c = λ line. let none = rw c.in_default-2.is at c.in_ok-scope.ensures in bad_scope c.args.client_name.now _ _ line none

pub returns-then-not-branch : goal.returns-then-not-branch
returns-then-not-branch c = λ line.
    let spelled = rw c.in-Some-2.is at c.in_ok-scope.ensures in
    too_long c.args.client_name.now c.args.scope_text.now _ _ _ line c.in-Some-2.scope c.in-Some-dates.not_before c.in-Some-dates.expires spelled
    c.algorithm-alg.ensures (sym c.in-Some-dates.is ∙ c.dates.ensures) (iff_false c.in_ok-can_be_sealed.ensures c.if-not-branch.true)

pub returns : goal.returns
returns c =
    let spelled = rw c.in-Some-2.is at c.in_ok-scope.ensures in
    grant_says c.args.client_name.now c.args.scope_text.now _ _ _ c.in-Some.client c.in-Some-2.scope c.in-Some-dates.not_before c.in-Some-dates.expires
    (sym c.in-Some.is ∙ c.client.ensures ∙ ap client_in c.as_bytes.ensures.value) spelled
    c.algorithm-alg.ensures (sym c.in-Some-dates.is ∙ c.dates.ensures) (c.in_ok-can_be_sealed.ensures.0 c.if-not-branch.false)
