-- The turns of a node that runs: one reading of the clocks, a draw for each step, and its ticks.
use Rattle.std.specs.Prelude.{◌≡◌, ◌≤◌, ◌<◌, ◌++◌, ◌∷◌, [], ℕ, suc, Bool, true, false, IsSome, List, Option, Some, None, is_some, length, map}
use Rattle.std.specs.List.{flat_map, list_any}
use Rattle.rand_core.specs.Stream.{fill_bytes}
use Rattle.osc_model.specs.declared.node.Draw.{Draw}
use Rattle.osc_model.specs.declared.node.Moment.{Moment}
use Rattle.osc_model.specs.declared.step.Datagram.{Datagram}
use Rattle.osc_model.specs.declared.step.Step.{Step}
use Rattle.osc_run.specs.{Cause}
use Rattle.osc_turn.specs.ClockAndRandom.{ClockAndRandomState, Reads, stream_from}
use Rattle.osc_turn.specs.Kept.Changes.{path_changed_by}
use Rattle.osc_turn.specs.Pace.{busy_after, must_tick}
use Rattle.osc_turn.specs.Ports.{CountsFault, Received, came_for, cause_of, grown}
use Rattle.osc_turn.specs.declared.error.TurnError.{TurnError}
use Rattle.osc_turn.specs.declared.error.TurnError.TheVariants.{Port, Memory}
use Rattle.osc_turn.specs.declared.kept.turning.Taken.{Taken}
use Rattle.osc_turn.specs.declared.turning.Stepped.{Stepped}

-- how many steps a turn makes at most
abbrev pub most_steps : ℕ
most_steps = 64

-- ---- what runs

-- a node as it is, since when it has taken what came without a tick, and what hands it moments and draws
pub record Running (N : Type 0) : Type 0 where
  pub node : N
  pub busy : Option Moment
  pub supply : ClockAndRandomState

abbrev pub running : {N : Type 0} → N → Option Moment → ClockAndRandomState → Running N
running node busy supply = record { node = node; busy = busy; supply = supply }

-- what a port tells: what its receives gave, what it was asked to send, and how many calls failed
pub record PortState : Type 0 where
  pub received : Option (List (Option Received))
  pub sent : Option (List Datagram)
  pub failures : ℕ

abbrev pub at_port : Option (List (Option Received)) → Option (List Datagram) → ℕ → PortState
at_port received sent failures = record { received = received; sent = sent; failures = failures }

-- Both clocks were read once, and nothing else happened: the moment is that of the time after this reading.
pub record Begins {N : Type 0} (old : Running N) (now : Moment) (new : Running N) : Type 0 where
  pub reads : Reads old.supply now new.supply
  pub generator : new.supply.generator ≡ old.supply.generator
  pub node : new.node ≡ old.node
  pub busy : new.busy ≡ old.busy

-- The next draw, which is the generator's next 32 bytes. No clock was read.
pub record Draws (old : ClockAndRandomState) (draw : Draw) (new : ClockAndRandomState) : Type 0 where
  pub drawn : (draw.0, stream_from new.generator) ≡ fill_bytes 32 (stream_from old.generator)
  pub time : new.time ≡ old.time
  pub behind : new.behind ≡ old.behind
  pub told : new.told ≡ old.told

-- ---- the steps of a turn

-- a step, and what came for it: nothing where it is that of a tick
pub record Made : Type 0 where
  pub came : Option Received
  pub step : Step

-- the same, without the bytes that came
abbrev pub stepped_of : Made → Stepped
stepped_of made = record { received = is_some made.came; step = made.step }

-- the moment of a turn, and its steps
pub record BatchState : Type 0 where
  pub at : Moment
  pub steps : List Stepped

-- all that the steps send, in order
abbrev pub sent_by : List Made → List Datagram
sent_by made = flat_map (λ one. one.step.out) made

-- whether a reply tells of a change that one of the steps made
abbrev pub any_changed : List Stepped → Bool
any_changed steps = list_any (λ stepped. is_some (path_changed_by stepped.step.notes.served)) steps

-- What the port gave in a turn: where it begins with a tick that is due, nothing, and the port wasn't asked; else what came for each step, and then what
-- was lost, if anything was.
abbrev pub gave_in : Bool → List Made → Option Received → List (Option Received)
gave_in true made lost = []
gave_in false made lost = map (λ one. one.came) made ++ came_for lost

-- Why a turn that made steps took nothing more, by an error, or without one: the receive failed, or there was no memory for what came last, which is
-- lost.
abbrev pub EndsBy : Option TurnError → Option Received → ℕ → ℕ → Type 0
EndsBy None lost failures failures_after = (lost ≡ None) × (failures_after ≡ failures)
EndsBy (Some (Port fault)) lost failures failures_after = (lost ≡ None) × (failures < failures_after)
EndsBy (Some Memory) lost failures failures_after = IsSome lost × (failures_after ≡ failures)

module _ {N : Type 0} (acts : N → Moment → Bool) (is_step : N → Cause → Step → N → Type 0) where
  -- a tick has to come: something of the node's own is due, or it has taken what came for so long
  abbrev pub ticks_at : Moment → Running N → Bool
  ticks_at now old = must_tick (acts old.node now) old.busy now

  -- one step at this moment, with the next draw: of what came, or a tick; a tick where one has to come
  pub record MakesStep (now : Moment) (old : Running N) (made : Made) (new : Running N) : Type 0 where
    pub draw : Draw
    pub draws : Draws old.supply draw new.supply
    pub ticks : ticks_at now old ≡ true → made.came ≡ None
    pub steps : is_step old.node (cause_of now draw made.came) made.step new.node
    pub pace : new.busy ≡ busy_after old.busy now (is_some made.came)

  -- What came is lost: there was no memory for its step. The node is as before, and waits for what comes next as after a tick. Nothing is lost
  -- where a tick has to come.
  pub record LosesLast (now : Moment) (old new : Running N) : Type 0 where
    pub draw : Draw
    pub draws : Draws old.supply draw new.supply
    pub awake : ticks_at now old ≡ false
    pub node : new.node ≡ old.node
    pub rested : new.busy ≡ None

  -- The steps of a turn at one moment, one after another. The first is a tick or of what came; after a tick there is none, and each other is of a datagram
  -- that came.
  pub data MakesMore (now : Moment) (first : Running N) : List Made → Running N → Type 0 where
    one : (made : Made) (new : Running N) → MakesStep now first made new → MakesMore now first (made ∷ []) new
    more : (earlier : List Made) (between : Running N) (made : Made) (new : Running N) → MakesMore now first earlier between
        → IsSome between.busy → IsSome made.came → MakesStep now between made new → MakesMore now first (earlier ++ made ∷ []) new

  -- these steps, and then what was lost, if anything was
  pub data MakesTurn (now : Moment) (first : Running N) (made : List Made) : Option Received → Running N → Type 0 where
    whole : (new : Running N) → MakesMore now first made new → MakesTurn now first made None new
    lossy : (between : Running N) (came : Received) (new : Running N) → MakesMore now first made between → IsSome between.busy → LosesLast now between new
        → MakesTurn now first made (Some came) new

  -- A turn that made steps: the clocks are read once.
  pub record TakesTurn (old : Running N) (made : List Made) (lost : Option Received) (new : Running N) : Type 0 where
    pub now : Moment
    pub begun : Running N
    pub begins : Begins old now begun
    pub makes : MakesTurn now begun made lost new
    pub few : length made ≤ most_steps

  -- A turn for whose first step there was no memory: what came is lost.
  pub record LosesTurn (old new : Running N) : Type 0 where
    pub now : Moment
    pub begun : Running N
    pub begins : Begins old now begun
    pub loses : LosesLast now begun new

  -- this number of turns, one after another, and all their steps
  pub data TakesTurns : ℕ → Running N → List Made → Running N → Type 0 where
    none : (first : Running N) → TakesTurns 0 first [] first
    taken : (n : ℕ) (first between last : Running N) (earlier made : List Made) (lost : Option Received)
        → TakesTurns n first earlier between → TakesTurn between made lost last → TakesTurns (suc n) first (earlier ++ made) last
    lost : (n : ℕ) (first between last : Running N) (earlier : List Made)
        → TakesTurns n first earlier between → LosesTurn between last → TakesTurns (suc n) first earlier last

  -- ---- turns at a port

  -- A turn that made steps, whose changes are kept: the port gave what they are of and what was lost, and then it was asked to send all that they send, in
  -- order. A fault is told of a send that failed.
  pub record DoesTurn (taken : Taken) (old : Running N) (port : PortState) (batch : BatchState) (new : Running N) (port_after : PortState) : Type 0 where
    pub made : List Made
    pub lost : Option Received
    pub turn : TakesTurn old made lost new
    pub is_batch : batch ≡ record { at = turn.now; steps = map stepped_of made }
    pub came_in : port_after.received ≡ grown port.received (gave_in (ticks_at turn.now turn.begun) made lost)
    pub sends : port_after.sent ≡ grown port.sent (sent_by made)
    pub failures : ℕ
    pub ends : EndsBy taken.ended lost port.failures failures
    pub fault : CountsFault taken.fault failures port_after.failures

  -- A turn that made steps, what they changed isn't kept, and nothing was sent.
  pub record MissesTurn (old : Running N) (port : PortState) (batch : BatchState) (new : Running N) (port_after : PortState) : Type 0 where
    pub made : List Made
    pub lost : Option Received
    pub turn : TakesTurn old made lost new
    pub is_batch : batch ≡ record { at = turn.now; steps = map stepped_of made }
    pub came_in : port_after.received ≡ grown port.received (gave_in (ticks_at turn.now turn.begun) made lost)
    pub sends : port_after.sent ≡ port.sent

  -- A turn for whose first step there was no memory: what came is lost, and nothing was sent.
  pub record DropsTurn (old : Running N) (port : PortState) (batch : BatchState) (new : Running N) (port_after : PortState) : Type 0 where
    pub lost : Received
    pub turn : LosesTurn old new
    pub is_batch : batch ≡ record { at = turn.now; steps = [] }
    pub came_in : port_after.received ≡ grown port.received (Some lost ∷ [])
    pub sends : port_after.sent ≡ port.sent
    pub not_counted : port_after.failures ≡ port.failures

  -- A turn whose first receive failed: no step was made, and nothing was sent.
  pub record FailsTurn (old : Running N) (port : PortState) (new : Running N) (port_after : PortState) : Type 0 where
    pub now : Moment
    pub begun : Running N
    pub begins : Begins old now begun
    pub awake : ticks_at now begun ≡ false
    pub node : new.node ≡ old.node
    pub busy : new.busy ≡ old.busy
    pub nothing : port_after.received ≡ port.received
    pub sends : port_after.sent ≡ port.sent
    pub counted : port.failures < port_after.failures
