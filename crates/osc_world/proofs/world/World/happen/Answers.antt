use Rattle.std.proofs.Common.{◌≡◌, ◌+◌, ◌++◌, ◌∷◌, [], take, drop, refl, sym, ap, ◌∙◌, subst, append-nil, length, rules, arith}
use Rattle.std.specs.Prelude.{◌≢◌}
use Rattle.std.proofs.lemmas.List.{length-drop, take_all, take_more, take-append-drop}
use Rattle.osc_world.specs.{Happen}
use Rattle.osc_world.proofs.Going.{happen_more}
use Rattle.osc_world.proofs.Rounds.{on_err}
use Rattle.osc_world.proofs.world.World.happen.Goals as goal

pub loop-event-init : goal.loop-event-init
loop-event-init g c = refl

pub loop-event-preserved : goal.loop-event-preserved
loop-event-preserved g c =
    let here = c.loop-event in
    let events = c.args.events.now in
    let item = c.event-item.result in
    let seal = g.A.Ciphers.is_sealing in
    let more : take (here.event-index + 1) events ≡ take here.event-index events ++ item ∷ [] =
    take_more events here.event-index item c.loop-event-test.true ∙ ap (λ e. take here.event-index events ++ e ∷ []) (sym c.event-item.is) in
    subst (λ es. Happen seal g.A.Ciphers.TAG c.args.self.now es c.happens.new.self) (sym more)
    (happen_more seal g.A.Ciphers.TAG c.args.self.now here.self c.happens.new.self (take here.event-index events) item here.invariant c.in_ok-happens.ensures.happens)

pub returns-in_err-happens : goal.returns-in_err-happens
returns-in_err-happens g c =
    let here = c.loop-event in
    let events = c.args.events.now in (
      take here.event-index events,
      drop here.event-index events,
      sym (take-append-drop here.event-index events),
      subst (λ s. Happen g.A.Ciphers.is_sealing g.A.Ciphers.TAG c.args.self.now (take here.event-index events) s) (sym c.in_err-happens.ensures.err) here.invariant,
      search rules,
      on_err c.from_residual.result (drop here.event-index events ≢ []) (λ none. absurd (omega (arith, c.loop-event-test.true, length-drop here.event-index events, ap length none))),
    )

pub returns : goal.returns
returns g c =
    let here = c.loop-event in
    let events = c.args.events.now in (
      events,
      [],
      sym (append-nil events),
      subst (λ es. Happen g.A.Ciphers.is_sealing g.A.Ciphers.TAG c.args.self.now es here.self) (take_all here.event-index events (omega (arith, c.loop-event-test.false))) here.invariant,
      refl,
      search rules,
    )
