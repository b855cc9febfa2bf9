use Rattle.osc_token.proofs.JudgingLemmas.{no_item}
use Rattle.osc_token.proofs.judging.judge.Goals as goal

pub returns-in-Some-clause-judged : goal.returns-in-Some-clause-judged
returns-in-Some-clause-judged c =
    let found = rw c.in-Some.is at c.whole.ensures in
    c.judge_item.ensures.judged c.args.text.now (record { whole = found.0; only = found.1 })

pub returns-in-None-clause-judged : goal.returns-in-None-clause-judged
returns-in-None-clause-judged c =
    let none = rw c.in-None.is at c.whole.ensures in
    no_item c.args.text.now c.args.audience.now c.args.now none
