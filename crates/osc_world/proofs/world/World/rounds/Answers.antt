use Rattle.std.proofs.Common.{◌≡◌, ◌≤◌, ◌<◌, ◌+◌, ◌-◌, ⊎_elim, ℕ, suc, true, false, not, length, Option, Some, refl, ap, ◌∙◌, sym, subst, arith}
use Rattle.std.specs.Prelude.{is_none, is_some}
use Rattle.std.proofs.lemmas.Bool.{cases_lt}
use Rattle.osc_model.specs.declared.node.Draw.{Draw}
use Rattle.osc_world.specs.{Deliveries, Rounds, delivery, next_draw, waiting_first, Happens, State}
use Rattle.osc_world.proofs.Rounds.{one_more, nothing_waits, on_err, one_record, is_none_of}
use Rattle.osc_world.proofs.world.World.rounds.Goals as goal

pub loop-init : goal.loop-init
loop-init g c =
    let deliveries : Deliveries = record { drawn = g.D.Draws.drawn c.args.draws.now; at = c.args.now } in
    record {
      within = omega arith;
      whole = λ event least below. absurd (omega (arith, least, below));
      rounds = λ left quiet new rounds.
          let none : left ≡ 0 + left = omega arith in
          subst (λ (n : ℕ). Rounds (Happens g.A.Ciphers.is_sealing g.A.Ciphers.TAG) deliveries n c.args.self.now quiet new) none rounds;
    }

pub returns-in_default-clause-rounds : goal.returns-in_default-clause-rounds
returns-in_default-clause-rounds g c =
    let here = c.loop in
    let deliveries : Deliveries = record { drawn = g.D.Draws.drawn c.args.draws.now; at = c.args.now } in
    let whole : here.counter + (c.args.limit - here.counter) ≡ c.args.limit = omega (arith, c.loop-test.true) in
    subst (λ (n : ℕ). Rounds (Happens g.A.Ciphers.is_sealing g.A.Ciphers.TAG) deliveries n c.args.self.now true here.self) whole
    (here.invariant.rounds (c.args.limit - here.counter) true here.self
    (nothing_waits g.A.Ciphers.is_sealing g.A.Ciphers.TAG deliveries here.self (c.args.limit - here.counter) (c.args.limit - here.counter - 1)
    (omega (arith, c.loop-test.true)) (sym c.next_waiting.ensures ∙ c.in_default.is)))

pub returns-in_err-delivers-clause-stopped : goal.returns-in_err-delivers-clause-stopped
returns-in_err-delivers-clause-stopped g c =
    let here = c.loop in
    let deliveries : Deliveries = record { drawn = g.D.Draws.drawn c.args.draws.now; at = c.args.now } in
    let waits : waiting_first here.self ≡ Some c.in-Some.datagram = sym c.next_waiting.ensures ∙ c.in-Some.is in
    let none : here.counter + 0 ≡ here.counter = omega arith in
    let below : here.counter < c.args.limit = omega (arith, c.loop-test.true) in
    let round : Rounds (Happens g.A.Ciphers.is_sealing g.A.Ciphers.TAG) deliveries here.counter c.args.self.now false c.delivers.new.self =
    subst (λ (w : State). Rounds (Happens g.A.Ciphers.is_sealing g.A.Ciphers.TAG) deliveries here.counter c.args.self.now false w) (sym c.in_err-delivers.ensures.err)
    (subst (λ (n : ℕ). Rounds (Happens g.A.Ciphers.is_sealing g.A.Ciphers.TAG) deliveries n c.args.self.now false here.self) none
    (here.invariant.rounds 0 false here.self (sym (ap (λ (o : Option ℕ). is_none o) waits), refl))) in
    on_err c.from_residual.result
    ((some : ℕ) × (some < c.args.limit) × Rounds (Happens g.A.Ciphers.is_sealing g.A.Ciphers.TAG) deliveries some c.args.self.now false c.delivers.new.self)
    (here.counter, below, round)

pub loop-preserved : goal.loop-preserved
loop-preserved g c =
    let here = c.loop in
    let deliveries : Deliveries = record { drawn = g.D.Draws.drawn c.args.draws.now; at = c.args.now } in
    let draw : c.draw-draw.result ≡ next_draw deliveries here.self =
    c.draw-draw.ensures ∙ ap (λ rs. deliveries.drawn (length rs)) (c.records.ensures ∙ ap (λ (w : State). w.records) c.self.view_is) in
    record {
      within = omega (arith, c.loop-test.true);
      whole = λ event least below.
          ⊎_elim
          (λ (earlier : event < length here.self.records). here.invariant.whole event least earlier)
          (λ (behind : length here.self.records ≤ event).
          let now : event ≡ length here.self.records = omega (arith, behind, below, one_record g.A.Ciphers.is_sealing g.A.Ciphers.TAG here.self c.delivers.new.self (delivery c.args.now c.draw-draw.result c.in-Some.datagram) c.in_ok-delivers.ensures.happens) in
          ap (λ (n : ℕ). length (deliveries.drawn n).0) now ∙ ap (λ (d : Draw). length d.0) (sym draw) ∙ c.is_whole.ensures)
          (cases_lt event (length here.self.records));
      rounds = λ left quiet new rounds.
          let more : here.counter + suc left ≡ here.counter + 1 + left = omega arith in
          subst (λ (n : ℕ). Rounds (Happens g.A.Ciphers.is_sealing g.A.Ciphers.TAG) deliveries n c.args.self.now quiet new) more
          (here.invariant.rounds (suc left) quiet new
          (one_more g.A.Ciphers.is_sealing g.A.Ciphers.TAG deliveries here.self c.delivers.new.self new quiet (suc left) left c.in-Some.datagram refl (sym c.next_waiting.ensures ∙ c.in-Some.is)
          (subst (λ d. Happens g.A.Ciphers.is_sealing g.A.Ciphers.TAG here.self (delivery c.args.now d c.in-Some.datagram) c.delivers.new.self) draw c.in_ok-delivers.ensures.happens)
          rounds));
    }

pub returns-clause-rounds : goal.returns-clause-rounds
returns-clause-rounds g c =
    let here = c.loop in
    let deliveries : Deliveries = record { drawn = g.D.Draws.drawn c.args.draws.now; at = c.args.now } in
    let whole : here.counter + 0 ≡ c.args.limit = omega (arith, here.invariant.within, c.loop-test.false) in
    subst (λ (n : ℕ). Rounds (Happens g.A.Ciphers.is_sealing g.A.Ciphers.TAG) deliveries n c.args.self.now c.is_none.result here.self) whole
    (here.invariant.rounds 0 c.is_none.result here.self
    (is_none_of (waiting_first here.self) c.is_none.result (subst (λ o. is_some o ≡ not c.is_none.result) c.next_waiting-2.ensures c.is_none.ensures), refl))

pub returns-in_default-clause-whole : goal.returns-in_default-clause-whole
returns-in_default-clause-whole g c = c.loop.invariant.whole

pub returns-clause-whole : goal.returns-clause-whole
returns-clause-whole g c = c.loop.invariant.whole
