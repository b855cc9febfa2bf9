-- What a proxy is told before its first event.
use Rattle.std.specs.Prelude.{ℕ, List, []}
use Rattle.osc_proxy.specs.declared.targets.Target.{Target}

-- its targets, and how many more than one of its own confirmable messages may be outstanding to a peer
pub record SettingsState : Type 0 where
  pub targets : List Target
  pub more : ℕ

abbrev pub no_settings : SettingsState
no_settings = record { targets = []; more = 0 }
