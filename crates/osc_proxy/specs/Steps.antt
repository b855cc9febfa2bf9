-- What a proxy does for each cause of a step: what the table of its cases gives. It seals and opens nothing.
use Rattle.std.specs.Prelude.{ℕ, ◌+◌, length}
use Rattle.osc_model.specs.declared.step.Step.{Step}
use Rattle.osc_run.specs.{Cause, Came, Due, ProxyStep}
use Rattle.osc_proxy.specs.Exchanges.{count}
use Rattle.osc_proxy.specs.Hearing.{Hears}
use Rattle.osc_proxy.specs.State.{State}
use Rattle.osc_proxy.specs.Ticks.{Ticks}

-- How many datagrams it sends at most in a step: two, and at a tick one for each message and each exchange that is open.
abbrev pub most_sent : State → ℕ
most_sent proxy = length proxy.endpoint.sending + count proxy.exchanges + 2

abbrev pub Makes : State → Cause → Step → State → Type 0
Makes old (Came came) step new = Hears old came step new
Makes old (Due now draw) step new = Ticks old now draw step new

pub record IsStep (old : State) (cause : Cause) (step : Step) (new : State) : Type 0 where
  pub makes : Makes old cause step new
  pub kind : ProxyStep step.notes
