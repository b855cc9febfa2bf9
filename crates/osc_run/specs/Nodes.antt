-- What a node takes a step for.
use Rattle.std.specs.Prelude.{ℕ, List}
use Rattle.osc_model.specs.Arrival.{Arrival}
use Rattle.osc_model.specs.declared.node.Draw.{Draw}
use Rattle.osc_model.specs.declared.node.Moment.{Moment}

-- These bytes came as one datagram; or nothing came by a moment, and what is due is to be done, with these random bytes.
pub data Cause : Type 0 where
  Came : Arrival (List ℕ) → Cause
  Due : Moment → Draw → Cause

-- when it takes it
abbrev pub moment_of : Cause → Moment
moment_of (Came came) = came.at
moment_of (Due now draw) = now
