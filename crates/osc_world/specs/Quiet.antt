-- Quiet rounds: what waits is delivered, in order of sending.
use Rattle.std.specs.Prelude.{◌≡◌, ◌≤◌, ◌<◌, ℕ, zero, suc, Bool, true, length, Option, Some, None, is_none, position}
use Rattle.osc_model.specs.declared.node.Draw.{Draw}
use Rattle.osc_model.specs.declared.node.Moment.{Moment}
use Rattle.osc_world.specs.Worlds.{State}
use Rattle.osc_world.specs.declared.event.Event.{Event}
use Rattle.osc_world.specs.declared.event.What.TheVariants.{Deliver}

-- the first datagram that was neither delivered nor dropped, by its number
abbrev pub waiting_first : State → Option ℕ
waiting_first world = position (λ datagram. datagram.waits) world.sent

-- it is delivered, with the draw of its event
abbrev pub delivery : Moment → Draw → ℕ → Event
delivery now draw datagram = record { moment = now; draw = draw; what = Deliver datagram }

-- how a quiet round goes: with the draw of each event, by the event's number, and at this moment
pub record Deliveries : Type 0 where
  pub drawn : ℕ → Draw
  pub at : Moment

-- what is drawn at the next event of a world
abbrev pub next_draw : Deliveries → State → Draw
next_draw deliveries world = deliveries.drawn (length world.records)

-- each draw of an event between these worlds has 32 bytes
abbrev pub AreWhole : (ℕ → Draw) → State → State → Type 0
AreWhole drawn old new = (event : ℕ) → length old.records ≤ event → event < length new.records → length (drawn event).0 ≡ 32

-- nothing waits, and all is quiet; or it goes on with the first that waits
abbrev pub OneMore : (ℕ → Type 0) → State → Option ℕ → Bool → State → Type 0
OneMore goes_on old None quiet new = (quiet ≡ true) × (new ≡ old)
OneMore goes_on old (Some datagram) quiet new = goes_on datagram

-- A quiet round of at most this number of deliveries, each of which happens so; then it is quiet, or something waits still.
abbrev pub Rounds : (State → Event → State → Type 0) → Deliveries → ℕ → State → Bool → State → Type 0
Rounds happens deliveries zero old quiet new = (quiet ≡ is_none (waiting_first old)) × (new ≡ old)
Rounds happens deliveries (suc left) old quiet new =
    OneMore
    (λ datagram. (next : State) × happens old (delivery deliveries.at (next_draw deliveries old) datagram) next × Rounds happens deliveries left next quiet new)
    old (waiting_first old) quiet new
