use Rattle.std.proofs.Common.{arith}
use Rattle.osc_message.proofs.endpoint.Endpoint.withdraw.Goals as goal

pub invariant_of-self : goal.invariant_of-self
invariant_of-self g c =
    let holds = c.self.invariant in (
      omega (arith, holds.0, c.withdraw.ensures.len),
      omega (arith, holds.1, c.withdraw.ensures.capacity),
      holds.2,
      c.withdraw.ensures.sound c.self.inside.pace holds.3,
      holds.4,
      holds.5,
    )
