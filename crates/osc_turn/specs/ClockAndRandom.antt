-- What a node is handed with each event.
use Rattle.std.specs.Prelude.{◌≡◌, ℕ, List, length, Option}
use Rattle.rand_chacha.specs.ChaCha.{ChaCha, next_word, of_seed}
use Rattle.rand_core.specs.Steps.{steps_u32, stream_of}
use Rattle.rand_core.specs.Stream.{Stream, fill_bytes}
use Rattle.osc_model.specs.declared.node.Draw.{Draw}
use Rattle.osc_model.specs.declared.node.Moment.{Moment}
use Rattle.osc_turn.specs.Behind.{behind_after, nothing_behind}
use Rattle.osc_turn.specs.Time.{Time, after, begun, ms_of}
use Rattle.osc_turn.specs.Watch.{one_more}
use Rattle.osc_turn.specs.declared.behind.Behind.{Behind}
use Rattle.osc_turn.specs.declared.watch.Reading.{Reading}

-- what the generator still gives: the key stream of ChaCha with 12 rounds
abbrev pub stream_from : ChaCha → Stream
stream_from generator = stream_of (steps_u32 (next_word 6)) generator

-- what hands a node its moments and draws: the time at the last reading, what there is to tell of a wall clock that is behind it, the generator, and
-- the readings so far, where contracts see them
pub record ClockAndRandomState : Type 0 where
  pub time : Time
  pub behind : Behind
  pub generator : ChaCha
  pub told : Option (List Reading)

-- the generator of a seed of 32 bytes that the system gave
pub record IsOfSeed (gave : List ℕ → Type 0) (generator : ChaCha) : Type 0 where
  pub seed : List ℕ
  pub given : gave seed
  pub long : length seed ≡ 32
  pub is : generator ≡ of_seed seed

-- the first `n` bytes of a generator of a seed that the system gave
abbrev pub IsDrawn : (List ℕ → Type 0) → ℕ → List ℕ → Type 0
IsDrawn gave n bytes = (generator : ChaCha) × IsOfSeed gave generator × (bytes ≡ (fill_bytes n (stream_from generator)).0)

-- The clocks were read once, after what was told before, and the time is the wall clock's. There is nothing to tell.
pub record Starts (before : Option (List Reading)) (supply : ClockAndRandomState) : Type 0 where
  pub reading : Reading
  pub told : supply.told ≡ one_more before reading
  pub time : supply.time ≡ begun reading
  pub behind : supply.behind ≡ nothing_behind

-- It is at the start, and its generator is that of a seed of 32 bytes.
pub record IsSeeded (supply : ClockAndRandomState) : Type 0 where
  pub start : (before : Option (List Reading)) × Starts before supply
  pub generator : (seed : List ℕ) × (length seed ≡ 32) × (supply.generator ≡ of_seed seed)

-- The clocks were read once more, and the moment is that of the time after this reading.
pub record Reads (old : ClockAndRandomState) (now : Moment) (new : ClockAndRandomState) : Type 0 where
  pub reading : Reading
  pub told : new.told ≡ one_more old.told reading
  pub time : new.time ≡ after old.time reading
  pub is_moment : now.ms ≡ ms_of new.time
  pub behind : new.behind ≡ behind_after old.behind new.time reading

-- The next moment, and the next draw: the generator's next 32 bytes.
pub record Gives (old : ClockAndRandomState) (now : Moment) (draw : Draw) (new : ClockAndRandomState) : Type 0 where
  pub reads : Reads old now new
  pub drawn : (draw.0, stream_from new.generator) ≡ fill_bytes 32 (stream_from old.generator)
