use Rattle.std.proofs.Common.{◌≡◌, ◌∙◌, ◌++◌, List, [], Ok, Err, OnOk, Result, ap, append-nil, subst, sym}
use Rattle.osc_run.specs.{IsReached}
use Rattle.osc_world.specs.{GoesOverLoss, Happen, StandApart, State, run_of}
use Rattle.osc_world.specs.declared.event.Event.{Event}
use Rattle.osc_world.proofs.world.World.run.Goals as goal

pub returns-clause-one_history : goal.returns-clause-one_history
returns-clause-one_history g c = c.one_history.ensures (run_of c.happen-done.new.self) (subst (λ (w : State). IsReached (run_of w)) c.self.view_is c.self.invariant.0)

pub returns-clause-own_nonces : goal.returns-clause-own_nonces
returns-clause-own_nonces g c = c.own_nonces.ensures (run_of c.happen-done.new.self) (subst (λ (w : State). IsReached (run_of w)) c.self.view_is c.self.invariant.0)

pub returns-clause-own_answers : goal.returns-clause-own_answers
returns-clause-own_answers g c = c.own_answers.ensures (run_of c.happen-done.new.self) (subst (λ (w : State). IsReached (run_of w)) c.self.view_is c.self.invariant.0)

pub returns-clause-reached : goal.returns-clause-reached
returns-clause-reached g c = subst (λ (w : State). IsReached (run_of w)) c.self.view_is c.self.invariant.0

pub returns-clause-apart : goal.returns-clause-apart
returns-clause-apart g c = subst (λ (w : State). StandApart w.nodes) c.self.view_is c.self.invariant.1

pub returns-clause-young : goal.returns-clause-young
returns-clause-young g c = c.contexts_are_young.ensures (run_of c.happen-done.new.self)

-- where all of the events happened
all_of : {A E : Type 0} {P Q : Type 0} (r : Result A E) → (P → Q) → OnOk r P → OnOk r Q
all_of (Ok a) f p = f p
all_of (Err e) f p = tt

pub returns-clause-over_loss : goal.returns-clause-over_loss
returns-clause-over_loss g c =
    let old = c.args.self.now in
    let new = c.happen-done.new.self in
    let it = c.happen-done.ensures in
    all_of c.happen-done.result
    (λ none. c.a_lossy_round.ensures old new c.args.events.now c.is_lawful.ensures.server c.is_lawful.ensures.clients c.is_lawful.ensures.apart
    (subst (λ (all : List Event). Happen g.A.Ciphers.is_sealing g.A.Ciphers.TAG old all new) (sym (it.2 ∙ ap (λ (rest : List Event). it.0 ++ rest) none ∙ append-nil it.0)) it.3))
    it.4
