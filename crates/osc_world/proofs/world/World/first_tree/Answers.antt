use Rattle.std.proofs.Common.{subst}
use Rattle.osc_run.specs.{IsReached}
use Rattle.osc_world.specs.{State, run_of}
use Rattle.osc_world.proofs.world.World.first_tree.Goals as goal

pub returns-clause-one_history : goal.returns-clause-one_history
returns-clause-one_history c = c.one_history.ensures (run_of c.args.self.now) (subst (λ (w : State). IsReached (run_of w)) c.self.view_is c.self.invariant.0)

pub returns-clause-reached : goal.returns-clause-reached
returns-clause-reached c = subst (λ (w : State). IsReached (run_of w)) c.self.view_is c.self.invariant.0
