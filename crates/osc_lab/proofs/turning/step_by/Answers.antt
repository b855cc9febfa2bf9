use Rattle.std.proofs.Common.{◌≡◌, Some, rules, take}
use Rattle.std.proofs.lemmas.Result.{IfOk-weaker}
use Rattle.osc_turn.specs.{CameIn, Received}
use Rattle.osc_lab.proofs.Taken.{given_by}
use Rattle.osc_lab.proofs.turning.step_by.Goals as goal

pub returns-in-Ok-Some-clause-done : goal.returns-in-Ok-Some-clause-done
returns-in-Ok-Some-clause-done g c =
    let came : Received = (c.in-Ok-Some.from, take c.in-Ok-Some.len c.receive.new.buffer) in
    let got : c.in-Ok-Some.field-0 ≡ Some (c.in-Ok-Some.from, c.in-Ok-Some.len) = search rules in
    let given : CameIn c.args.due (Some came) (g.P.Port.received c.args.port.now) (g.P.Port.received c.receive.new.self) =
    given_by c.args.due c.in-Ok-Some.field-0 c.in-Ok-Some.from c.in-Ok-Some.len c.receive.new.buffer _ _ c.if-due.false got c.in-Ok-Some.ensures.received in
    IfOk-weaker c.heard.result _ _ (λ stepped hears. (Some came, given, hears.0, hears.1)) c.heard.ensures.hears
