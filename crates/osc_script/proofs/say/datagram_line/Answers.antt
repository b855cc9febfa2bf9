use Rattle.std.proofs.Common.{sym, subst, map}
use Rattle.std.proofs.lemmas.Result.{IfOk-weaker}
use Rattle.osc_script.specs.Inner.Reading.{Gives}
use Rattle.osc_script.proofs.Said.{no_datagram_verb}
use Rattle.osc_script.proofs.say.datagram_line.Goals as goal

pub returns-in_default : goal.returns-in_default
returns-in_default c =
    let same = no_datagram_verb c.args.verb.now (map (λ arg. arg.now) c.args.args.now) c.in_default.not-deliver c.in_default.not-drop c.in_default.not-alter c.in_default.not-graft in
    IfOk-weaker c.node_line.result _ _ (λ found. subst (λ read. Gives read found) (sym same)) c.node_line.ensures
