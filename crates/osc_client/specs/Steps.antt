-- What a client does for each cause of a step: one step of a run, in which its holder doesn't lie, and what the table of its cases gives.
use Rattle.std.specs.Prelude.{ℕ, false, ◌==◌, if◌then◌else◌, length}
use Rattle.osc_model.specs.declared.step.Step.{Step}
use Rattle.osc_ccm.specs.{Sealings}
use Rattle.osc_run.specs.{ClientStep, Cause, Came, Due}
use Rattle.osc_client.specs.Hearing.{Hears, Ticks}
use Rattle.osc_client.specs.State.{State, core}

-- How many datagrams it sends at most in a step: one, or one for each message that is open.
abbrev pub one_or : ℕ → ℕ
one_or open_messages = if open_messages == 0 then 1 else open_messages

abbrev pub most_sent : State → ℕ
most_sent client = one_or (length client.endpoint.sending)

-- `is_sealing algorithm` is the relation of the algorithm's cipher
module _ (is_sealing : Sealings) where
  abbrev pub Makes : State → Cause → Step → State → Type 0
  Makes old (Came came) step new = Hears is_sealing old came step new
  Makes old (Due now draw) step new = Ticks old now step new

  pub record IsStep (old : State) (cause : Cause) (step : Step) (new : State) : Type 0 where
    pub makes : Makes old cause step new
    pub kind : ClientStep false (core old) step.notes (core new)
