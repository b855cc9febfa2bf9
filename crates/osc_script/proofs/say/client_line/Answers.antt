use Rattle.std.proofs.Common.{sym, subst, map}
use Rattle.std.proofs.lemmas.Result.{IfOk-weaker}
use Rattle.osc_script.specs.Inner.Reading.{Gives}
use Rattle.osc_script.proofs.Said.{no_client_verb}
use Rattle.osc_script.proofs.say.client_line.Goals as goal

pub returns-in_default : goal.returns-in_default
returns-in_default c =
    let same = no_client_verb c.args.verb.now (map (λ arg. arg.now) c.args.args.now) c.in_default.not-exchange c.in_default.not-ask c.in_default.not-skip c.in_default.not-lie in
    IfOk-weaker c.datagram_line.result _ _ (λ found. subst (λ read. Gives read found) (sym same)) c.datagram_line.ensures
