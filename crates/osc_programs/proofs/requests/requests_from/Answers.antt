use Rattle.std.proofs.Common.{◌≡◌, ◌∙◌, ℕ, List, subst}
use Rattle.std.proofs.lemmas.Result.{IfErr-weaker, IfOk-weaker, err_from_is_err_and}
use Rattle.osc_words.specs.RequestLines.{IsFirstBad, Say, lines_of}
use Rattle.osc_programs.specs.{NoScript}
use Rattle.osc_programs.proofs.Talking.{some_more}
use Rattle.osc_programs.proofs.requests.requests_from.Goals as goal

pub returns-clause-said : goal.returns-clause-said
returns-clause-said g c =
    IfOk-weaker c.requests_in.result _ _
    (λ said say. some_more (g.I.Read.remaining c.args.reader.now) _ _
    (λ known is. subst (λ (bytes : List ℕ). Say (lines_of bytes) said.items) (c.deref.ensures.value ∙ is) say) c.in_ok-text.ensures.bytes)
    c.requests_in.ensures.said

pub returns-clause-bad : goal.returns-clause-bad
returns-clause-bad g c =
    IfErr-weaker c.requests_in.result _ _
    (λ ended bad n e. some_more (g.I.Read.remaining c.args.reader.now) _ _
    (λ known is. subst (λ (bytes : List ℕ). IsFirstBad (lines_of bytes) n) (c.deref.ensures.value ∙ is) (bad n e)) c.in_ok-text.ensures.bytes)
    c.requests_in.ensures.bad

pub returns-in_err-text : goal.returns-in_err-text
returns-in_err-text g c =
    let p = err_from_is_err_and c.from_residual.result c.from_residual.ensures.1 in
    rw (p.1, p.2) (record { said = tt; bad = λ n e. absurd (subst NoScript e c.in_err-text.ensures.ends); end = c.script_bytes.ensures.end })
