-- What a node in a program has from the system: a port, and the seed of its draws.
use Rattle.std.specs.Prelude.{◌≡◌, ◌++◌, [], ℕ, List, Option}
use Rattle.osc_model.specs.declared.step.Datagram.{Datagram}
use Rattle.osc_turn.specs.{ClockAndRandomState, IsOfSeed, Received, grown}

-- ---- what passes at a port

-- what a port gave, one receive after another, and what was handed to it
pub record Passed : Type 0 where
  pub received : List (Option Received)
  pub sent : List Datagram

abbrev pub nothing_passed : Passed
nothing_passed = record { received = []; sent = [] }

-- first this, and then that
abbrev pub then_passed : Passed → Passed → Passed
then_passed first next = record { received = first.received ++ next.received; sent = first.sent ++ next.sent }

-- a port that told the first of these tells the second after this passed
pub record Passes {P : Type 0} (received_by : P → Option (List (Option Received))) (sent_by : P → Option (List Datagram)) (first last : P) (passed : Passed) : Type 0 where
  pub given : received_by last ≡ grown (received_by first) passed.received
  pub handed : sent_by last ≡ grown (sent_by first) passed.sent

-- A node that began with this supply drew by a seed that the system gave. All that it took its steps for was given by a port that was opened so, and
-- all that it sent was handed to that port, each in order.
pub record RunsOn {P : Type 0} (gave : List ℕ → Type 0) (is_opened : P → Type 0) (received_by : P → Option (List (Option Received))) (sent_by : P → Option (List Datagram))
    (start : ClockAndRandomState) (passed : Passed) : Type 0 where
  pub seed : IsOfSeed gave start.generator
  pub first : P
  pub last : P
  pub opened : is_opened first
  pub passes : Passes received_by sent_by first last passed
