-- What a proxy keeps.
use Rattle.std.specs.Prelude.{List}
use Rattle.osc_message.specs.{EndpointState, fresh_with}
use Rattle.osc_proxy.specs.Exchanges.{Table, none_open}
use Rattle.osc_proxy.specs.declared.targets.Target.{Target}

-- to whom it forwards; the exchanges that are open; and the message layer
pub record State : Type 0 where
  pub targets : List Target
  pub exchanges : Table
  pub endpoint : EndpointState

-- it starts again: the targets stay alone, and how many confirmable messages may be outstanding to a peer
abbrev pub restarted : State → State
restarted old = record old { exchanges = none_open; endpoint = fresh_with old.endpoint.pace.more }
