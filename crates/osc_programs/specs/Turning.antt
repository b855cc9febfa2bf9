-- The turns that a node takes in a program: its moments, its draws, its ticks, and what passes at its port.
use Rattle.std.specs.Prelude.{◌≡◌, ◌≢◌, ◌≤◌, ◌++◌, ◌∷◌, ℕ, suc, Bool, true, List, [], Option, Some, None, is_some, map}
use Rattle.osc_model.specs.declared.node.Draw.{Draw}
use Rattle.osc_model.specs.declared.node.Moment.{Moment}
use Rattle.osc_model.specs.declared.step.Datagram.{Datagram}
use Rattle.osc_model.specs.declared.step.Step.{Step}
use Rattle.osc_log.specs.{Event, behind, turned}
use Rattle.osc_log.specs.Log as log
use Rattle.osc_log.specs.declared.held.Held.{Held}
use Rattle.osc_run.specs.{Cause}
use Rattle.osc_turn.specs.{busy_after, must_tick, Received, cause_of, Gives, IsSeeded, ClockAndRandomState}
use Rattle.osc_turn.specs.Running.{Made, Running, LosesTurn, gave_in, running, sent_by, stepped_of, ticks_at}
use Rattle.osc_turn.specs.Running as kept
use Rattle.osc_turn.specs.declared.turning.Stepped.{Stepped}
use Rattle.osc_store.specs.declared.error.KeepError.{KeepError}
use Rattle.osc_programs.specs.System.{Passed, RunsOn, nothing_passed, then_passed}
use Rattle.osc_programs.specs.declared.ended.Ended.{Ended}
use Rattle.osc_programs.specs.declared.ended.Ended.TheVariants.{Done, NotKept}

-- ---- one step

-- A turn of one step, at the next moment and with the next draw: it is taken for what the port gave, and it is a tick where one has to come: something of
-- the node's own is due, or it has taken what came for so long.
pub record TakesTurn {N : Type 0} (acts : N → Moment → Bool) (is_step : N → Cause → Step → N → Type 0)
    (old : Running N) (received : List (Option Received)) (step : Step) (new : Running N) : Type 0 where
  pub now : Moment
  pub draw : Draw
  pub came : Option Received
  pub gives : Gives old.supply now draw new.supply
  pub given : received ≡ gave_in (must_tick (acts old.node now) old.busy now) (record { came = came; step = step } ∷ []) None
  pub ticks : must_tick (acts old.node now) old.busy now ≡ true → came ≡ None
  pub steps : is_step old.node (cause_of now draw came) step new.node
  pub pace : new.busy ≡ busy_after old.busy now (is_some came)

-- ---- what is told of turns

-- what passed at the port in turns, and what there is to tell of them
pub record Shown : Type 0 where
  pub passed : Passed
  pub events : List Event

abbrev pub nothing_shown : Shown
nothing_shown = record { passed = nothing_passed; events = [] }

-- of some turns, and of the next ones
abbrev pub and_then : Shown → Shown → Shown
and_then first next = record { passed = then_passed first.passed next.passed; events = first.events ++ next.events }

-- what there is to tell of the wall clock at a moment: by how many seconds it is behind, where that is due
abbrev pub of_behind : Moment → Option ℕ → List Event
of_behind now None = []
of_behind now (Some seconds) = behind now seconds ∷ []

abbrev pub of_clock : Moment → ClockAndRandomState → List Event
of_clock now supply = of_behind now supply.behind.seconds

-- of the steps of a turn, after which the node holds this
abbrev pub of_step : Moment → Held → Stepped → Event
of_step now held stepped = turned (record { now = now; received = stepped.received; step = stepped.step }) held

abbrev pub of_steps : Moment → Held → List Stepped → List Event
of_steps now held steps = map (of_step now held) steps

-- of what was lost, if anything was
abbrev pub of_lost : Moment → Option Received → List Event
of_lost now None = []
of_lost now (Some came) = log.lost now ∷ []

-- ---- many steps

-- what such a node holds is told beside its turns
module _ {N : Type 0} (acts : N → Moment → Bool) (is_step : N → Cause → Step → N → Type 0) (held : N → Held) where
  -- A turn, and what it showed: one that made steps, after which something may have been lost for lack of memory; or one in which all that came was lost.
  -- First there is what is to be told of the wall clock.
  pub data GoesOn (old : Running N) : Shown → Running N → Type 0 where
    taken : (made : List Made) (lost : Option Received) (new : Running N) (turn : kept.TakesTurn acts is_step old made lost new)
        → GoesOn old (record {
          passed = record { received = gave_in (ticks_at acts is_step turn.now turn.begun) made lost; sent = sent_by made };
          events = of_clock turn.now new.supply ++ (of_steps turn.now (held new.node) (map stepped_of made) ++ of_lost turn.now lost);
        }) new
    lost : (came : Received) (new : Running N) (turn : LosesTurn acts is_step old new)
        → GoesOn old (record {
          passed = record { received = Some came ∷ []; sent = [] };
          events = of_clock turn.now new.supply ++ of_lost turn.now (Some came);
        }) new

  -- this number of turns, one after another, and what they showed
  pub data Turns : ℕ → Running N → Shown → Running N → Type 0 where
    none : (first : Running N) → Turns 0 first nothing_shown first
    more : (n : ℕ) (first between last : Running N) (shown next : Shown) → Turns n first shown between → GoesOn between next last
        → Turns (suc n) first (and_then shown next) last

-- ---- how they end

module _ {N : Type 0} (acts : N → Moment → Bool) (is_step : N → Cause → Step → N → Type 0) where
  -- What a node leaves that ended so after this turn: it is as it was, and nothing more came. Or it took one more turn, of which a change isn't kept;
  -- of that one nothing was sent, and this came.
  pub data LeavesNode (last : Running N) : Ended → List (Option Received) → N → Type 0 where
    as_it_was : (ended : Ended) → LeavesNode last ended [] last.node
    moved_on : (error : KeepError) (made : List Made) (lost : Option Received) (new : Running N) (turn : kept.TakesTurn acts is_step last made lost new)
        → LeavesNode last (NotKept error) (gave_in (ticks_at acts is_step turn.now turn.begun) made lost) new.node

-- what turns showed, after which this came as well
abbrev pub shown_after : Shown → List (Option Received) → Shown
shown_after earlier came = record { passed = then_passed earlier.passed (record { received = came; sent = [] }); events = earlier.events }

module _ {N : Type 0} (acts : N → Moment → Bool) (is_step : N → Cause → Step → N → Type 0) (held : N → Held) where
  -- What a node did that was to take this number of turns, until it ended so: the turns that it took from the start on, and what it left.
  pub record Runs (turns : ℕ) (ended : Ended) (old : N) (shown : Shown) (new : N) : Type 0 where
    pub start : ClockAndRandomState
    pub seeded : IsSeeded start
    pub taken : ℕ
    pub few : taken ≤ turns
    pub all : ended ≡ Done → taken ≡ turns
    pub earlier : Shown
    pub last : Running N
    pub takes : Turns acts is_step held taken (running old None start) earlier last
    pub came : List (Option Received)
    pub leaves : LeavesNode acts is_step last ended came new
    pub is : shown ≡ shown_after earlier came

module _ {P : Type 0} (gave : List ℕ → Type 0) (is_opened : P → Type 0) (received_by : P → Option (List (Option Received))) (sent_by_port : P → Option (List Datagram)) where
  -- The same at a port that was opened so, by a seed that the system gave: what there is to tell of it, and the node after the turns, and after all that it
  -- did. Where there was no port or no seed, it did nothing.
  pub data Ran {N : Type 0} (acts : N → Moment → Bool) (is_step : N → Cause → Step → N → Type 0) (held : N → Held) (turns : ℕ) (old : N) : Ended → List Event → N → N → Type 0 where
    never : (ended : Ended) → ended ≢ Done → Ran acts is_step held turns old ended [] old old
    ran : (ended : Ended) (shown : Shown) (new : N) (runs : Runs acts is_step held turns ended old shown new)
        → RunsOn gave is_opened received_by sent_by_port runs.start shown.passed → Ran acts is_step held turns old ended shown.events runs.last.node new
