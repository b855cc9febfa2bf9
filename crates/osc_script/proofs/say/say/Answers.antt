use Rattle.std.proofs.Common.{arith, take_all, length-drop}
use Rattle.std.proofs.lemmas.Result.{IfOk-weaker}
use Rattle.osc_script.proofs.Said.{default_reads}
use Rattle.osc_script.proofs.say.say.Goals as goal

pub returns-in_default-verb : goal.returns-in_default-verb
returns-in_default-verb c =
    IfOk-weaker c.plain_line.result _ _
    (λ found. default_reads c.args.words.now _ _ found c.in-len1-up.len_at_least (take_all _ _ (omega (arith, length-drop 1 c.args.words.now))) c.in_default-verb.not-grant)
    c.plain_line.ensures
