use Rattle.osc_simulation.specs.Records.NamesPeer.{of_node}
use Rattle.osc_simulation.proofs.record.peer_name.Goals as goal

pub returns-in-Some : goal.returns-in-Some
returns-in-Some c = of_node c.in-Some.node c.in-Some.ensures.some c.name.ensures
