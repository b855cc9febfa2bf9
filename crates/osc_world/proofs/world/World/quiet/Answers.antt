use Rattle.std.proofs.Common.{Bool, IfOk, OnOk, Result, Ok, Err, subst}
use Rattle.osc_run.specs.{IsReached}
use Rattle.osc_world.specs.{Deliveries, Rounds, AnswersWhatWasAsked, MakesWhatWasBegun, StandApart, Happens, State, run_of}
use Rattle.osc_world.proofs.world.World.quiet.Goals as goal

pub returns-clause-one_history : goal.returns-clause-one_history
returns-clause-one_history g c = c.one_history.ensures (run_of c.rounds-done.new.self) (subst (λ (w : State). IsReached (run_of w)) c.self.view_is c.self.invariant.0)

pub returns-clause-own_nonces : goal.returns-clause-own_nonces
returns-clause-own_nonces g c = c.own_nonces.ensures (run_of c.rounds-done.new.self) (subst (λ (w : State). IsReached (run_of w)) c.self.view_is c.self.invariant.0)

pub returns-clause-own_answers : goal.returns-clause-own_answers
returns-clause-own_answers g c = c.own_answers.ensures (run_of c.rounds-done.new.self) (subst (λ (w : State). IsReached (run_of w)) c.self.view_is c.self.invariant.0)

-- what is so where a round was had, with its draws whole
both : {A E : Type 0} {X : Type 0} (r : Result A E) (P Q : A → Type 0) → ((a : A) → P a → X → Q a) → IfOk r P → OnOk r X → IfOk r Q
both (Ok a) P Q f p x = f a p x
both (Err e) P Q f p x = tt

pub returns-clause-begun : goal.returns-clause-begun
returns-clause-begun g c =
    let deliveries : Deliveries = record { drawn = g.D.Draws.drawn c.args.draws.now; at = c.args.now } in
    let old = c.args.self.now in
    let new = c.rounds-done.new.self in
    both c.rounds-done.result
    (λ (quiet : Bool). Rounds (Happens g.A.Ciphers.is_sealing g.A.Ciphers.TAG) deliveries c.args.limit old quiet new)
    (λ (quiet : Bool). MakesWhatWasBegun g.A.Ciphers.is_sealing g.A.Ciphers.TAG deliveries c.args.limit old (record { is_quiet = quiet; world = new }))
    (λ quiet rounds whole. c.an_exchanged_round.ensures.made deliveries c.args.limit old new quiet
    whole c.is_lawful.ensures.apart c.is_lawful.ensures.proxies c.is_lawful.ensures.clients rounds)
    c.rounds-done.ensures.rounds c.rounds-done.ensures.whole

pub returns-clause-asked : goal.returns-clause-asked
returns-clause-asked g c =
    let deliveries : Deliveries = record { drawn = g.D.Draws.drawn c.args.draws.now; at = c.args.now } in
    let old = c.args.self.now in
    let new = c.rounds-done.new.self in
    both c.rounds-done.result
    (λ (quiet : Bool). Rounds (Happens g.A.Ciphers.is_sealing g.A.Ciphers.TAG) deliveries c.args.limit old quiet new)
    (λ (quiet : Bool). AnswersWhatWasAsked g.A.Ciphers.is_sealing g.A.Ciphers.TAG deliveries c.args.limit old (record { is_quiet = quiet; world = new }))
    (λ quiet rounds whole. c.an_asked_round.ensures.answered deliveries c.args.limit old new quiet
    whole c.is_lawful.ensures.apart c.is_lawful.ensures.server c.is_lawful.ensures.proxies c.is_lawful.ensures.clients rounds)
    c.rounds-done.ensures.rounds c.rounds-done.ensures.whole

pub returns-clause-reached : goal.returns-clause-reached
returns-clause-reached g c = subst (λ (w : State). IsReached (run_of w)) c.self.view_is c.self.invariant.0

pub returns-clause-apart : goal.returns-clause-apart
returns-clause-apart g c = subst (λ (w : State). StandApart w.nodes) c.self.view_is c.self.invariant.1

pub returns-clause-stopped : goal.returns-clause-stopped
returns-clause-stopped g c = c.rounds-done.ensures.stopped

pub returns-clause-young : goal.returns-clause-young
returns-clause-young g c = c.contexts_are_young.ensures (run_of c.rounds-done.new.self)
