-- Quiet rounds, one delivery more at their beginning.
use Rattle.std.proofs.Common.{◌≡◌, ◌≤◌, ◌+◌, ◌∙◌, ℕ, zero, suc, Bool, true, false, not, length, refl, ap, sym, subst, Option, Some, None, Result, Ok, Err, arith}
use Rattle.std.specs.Prelude.{OnErr, is_none, is_some}
use Rattle.std.proofs.lemmas.List.{length-append}
use Rattle.osc_ccm.specs.{Sealings, Tags}
use Rattle.osc_world.specs.{Deliveries, OneMore, Rounds, delivery, next_draw, waiting_first, State, Happens}
use Rattle.osc_world.specs.declared.event.Event.{Event}

-- an event leaves one
pub one_record : (is_sealing : Sealings) (tag : Tags) (old new : State) (event : Event)
    → Happens is_sealing tag old event new → length new.records ≡ length old.records + 1
one_record is_sealing tag old new event happens = ap (λ (w : State). length w.records) happens.is ∙ length-append old.records _

module _ (is_sealing : Sealings) (tag : Tags) (deliveries : Deliveries) where
  abbrev GoesOn : ℕ → State → Bool → State → Type 0
  GoesOn limit old quiet new = Rounds (Happens is_sealing tag) deliveries limit old quiet new

  abbrev Goes : ℕ → State → Bool → State → ℕ → Type 0
  Goes left old quiet new datagram =
      (next : State) × Happens is_sealing tag old (delivery deliveries.at (next_draw deliveries old) datagram) next × GoesOn left next quiet new

  pub one_more : (old next new : State) (quiet : Bool) (n left datagram : ℕ) → n ≡ suc left → waiting_first old ≡ Some datagram
      → Happens is_sealing tag old (delivery deliveries.at (next_draw deliveries old) datagram) next
      → GoesOn left next quiet new → GoesOn n old quiet new
  one_more old next new quiet n left datagram more waits happens later =
      subst (λ m. GoesOn m old quiet new) (sym more)
      (subst (λ first. OneMore (Goes left old quiet new) old first quiet new) (sym waits)
      (next, happens, later))

  pub nothing_waits : (old : State) (n left : ℕ) → n ≡ suc left → waiting_first old ≡ None → GoesOn n old true old
  nothing_waits old n left more none =
      subst (λ m. GoesOn m old true old) (sym more)
      (subst (λ first. OneMore (Goes left old true old) old first true old) (sym none)
      (refl, refl))

  -- no record is lost
  pub none_lost : (left : ℕ) (old : State) (quiet : Bool) (new : State) → GoesOn left old quiet new → length old.records ≤ length new.records
  none_lost zero old quiet new rounds = omega (arith, ap (λ (w : State). length w.records) rounds.1)
  none_lost (suc left) old quiet new rounds = by (waiting_first old) (λ (next : State) later. none_lost left next quiet new later) rounds
    where
      by : (first : Option ℕ) → ((next : State) → GoesOn left next quiet new → length next.records ≤ length new.records)
          → OneMore (Goes left old quiet new) old first quiet new
          → length old.records ≤ length new.records
      by None later it = omega (arith, ap (λ (w : State). length w.records) it.1)
      by (Some datagram) later it =
          omega (arith, one_record is_sealing tag old it.0 (delivery deliveries.at (next_draw deliveries old) datagram) it.1, later it.0 it.2)

-- what is true is true after an Err
pub on_err : {A E : Type 0} (r : Result A E) (P : Type 0) → P → OnErr r P
on_err (Ok a) P p = tt
on_err (Err e) P p = p

pub is_none_of : (o : Option ℕ) (b : Bool) → is_some o ≡ not b → b ≡ is_none o
is_none_of None true e = refl
is_none_of None false e = absurd (cc)
is_none_of (Some n) true e = absurd (cc)
is_none_of (Some n) false e = refl
