use Rattle.std.proofs.Common.{subst}
use Rattle.osc_run.specs.{IsReached}
use Rattle.osc_world.specs.{State, run_of}
use Rattle.osc_world.proofs.world.World.history.Goals as goal

pub returns-clause-one_history : goal.returns-clause-one_history
returns-clause-one_history c = c.one_history.ensures (run_of c.args.self.now) (subst (λ (w : State). IsReached (run_of w)) c.self.view_is c.self.invariant.0)

pub returns-clause-own_answers : goal.returns-clause-own_answers
returns-clause-own_answers c = c.own_answers.ensures (run_of c.args.self.now) (subst (λ (w : State). IsReached (run_of w)) c.self.view_is c.self.invariant.0)

pub returns-clause-reached : goal.returns-clause-reached
returns-clause-reached c = subst (λ (w : State). IsReached (run_of w)) c.self.view_is c.self.invariant.0

pub returns-clause-young : goal.returns-clause-young
returns-clause-young c = c.contexts_are_young.ensures (run_of c.args.self.now)
