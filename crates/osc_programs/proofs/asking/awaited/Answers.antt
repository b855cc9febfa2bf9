use Rattle.std.proofs.Common.{subst, sym}
use Rattle.osc_programs.specs.{Waits, at_once, nothing_passed, told}
use Rattle.osc_turn.specs.Running.{Running}
use Rattle.osc_programs.specs.declared.asking.AskEnd.TheVariants.{Told}
use Rattle.osc_client.specs.State.{State as Client}
use Rattle.osc_programs.proofs.Passing.{passes_none}
use Rattle.osc_programs.proofs.asking.awaited.Goals as goal

pub returns-in-Some-clause-waits : goal.returns-in-Some-clause-waits
returns-in-Some-clause-waits g c =
    let talking = c.args.talking.now in
    let client : Running Client = (record { node = talking.client; busy = talking.pace.busy_since; supply = talking.supply }) in
    let result = c.in-Some.result in (
      nothing_passed,
      subst (λ learnt. Waits c.args.left.now.until c.args.left.now.turns learnt client (at_once (Told result)) c.args.left.now.turns client) (sym c.in-Some.is) (told c.args.left.now.turns client result),
      passes_none g.P.Port.received g.P.Port.sent _,
    )
