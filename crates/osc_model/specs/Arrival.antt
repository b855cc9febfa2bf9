-- What arrives at a node.
use Rattle.osc_model.specs.declared.node.Draw.{Draw}
use Rattle.osc_model.specs.declared.node.Moment.{Moment}
use Rattle.osc_model.specs.declared.node.Peer.{Peer}

-- When something came, from whom, the random bytes of the step that it causes, and what it is: the bytes of a datagram, or the message
-- that they spell.
pub record Arrival (What : Type 0) : Type 0 where
  pub at : Moment
  pub from : Peer
  pub draw : Draw
  pub what : What

-- the same, as what it is read as
abbrev pub read_as : {A B : Type 0} → Arrival A → B → Arrival B
read_as came what = record { at = came.at; from = came.from; draw = came.draw; what = what }
