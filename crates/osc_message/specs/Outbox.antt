-- What a step sends, in places that were taken before.
use Rattle.std.specs.Prelude.{ℕ, List}
use Rattle.osc_model.specs.declared.step.Datagram.{Datagram}

-- the datagrams that are sent so far, and for how many more there are places
pub record OutboxState : Type 0 where
  pub sent : List Datagram
  pub places : ℕ
