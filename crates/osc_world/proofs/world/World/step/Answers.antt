use Rattle.std.proofs.Common.{subst}
use Rattle.osc_run.specs.{IsReached}
use Rattle.osc_world.specs.{StandApart, State, run_of}
use Rattle.osc_world.proofs.world.World.step.Goals as goal

pub returns-clause-one_history : goal.returns-clause-one_history
returns-clause-one_history g c = c.one_history.ensures (run_of c.happens-done.new.self) (subst (λ (w : State). IsReached (run_of w)) c.self.view_is c.self.invariant.0)

pub returns-clause-own_nonces : goal.returns-clause-own_nonces
returns-clause-own_nonces g c = c.own_nonces.ensures (run_of c.happens-done.new.self) (subst (λ (w : State). IsReached (run_of w)) c.self.view_is c.self.invariant.0)

pub returns-clause-own_answers : goal.returns-clause-own_answers
returns-clause-own_answers g c = c.own_answers.ensures (run_of c.happens-done.new.self) (subst (λ (w : State). IsReached (run_of w)) c.self.view_is c.self.invariant.0)

pub returns-clause-reached : goal.returns-clause-reached
returns-clause-reached g c = subst (λ (w : State). IsReached (run_of w)) c.self.view_is c.self.invariant.0

pub returns-clause-apart : goal.returns-clause-apart
returns-clause-apart g c = subst (λ (w : State). StandApart w.nodes) c.self.view_is c.self.invariant.1

pub returns-clause-young : goal.returns-clause-young
returns-clause-young g c = c.contexts_are_young.ensures (run_of c.happens-done.new.self)
