use Rattle.std.proofs.Common.{sym, subst, map}
use Rattle.std.proofs.lemmas.Result.{IfOk-weaker}
use Rattle.osc_script.specs.Inner.Reading.{Gives}
use Rattle.osc_script.proofs.Said.{no_plain_verb}
use Rattle.osc_script.proofs.say.plain_line.Goals as goal

pub returns-in_default : goal.returns-in_default
returns-in_default c =
    let same = no_plain_verb c.args.verb.now (map (λ arg. arg.now) c.args.args.now) c.in_default.not-put c.in_default.not-open c.in_default.not-revoked c.in_default.not-proxy c.in_default.not-via in
    IfOk-weaker c.timed_line.result _ _ (λ found. subst (λ read. Gives read found) (sym same)) c.timed_line.ensures
