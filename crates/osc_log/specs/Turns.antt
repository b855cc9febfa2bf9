-- What a log is told of a turn.
use Rattle.std.specs.Prelude.{ℕ, Bool, List, slice_get, unwrap_or}
use Rattle.osc_model.specs.declared.node.Moment.{Moment}
use Rattle.osc_model.specs.declared.step.Step.{Step}
use Rattle.osc_log.specs.declared.form.Form.{Form}

-- when it was, whether a datagram came, and what the node did
pub record Turn : Type 0 where
  pub now : Moment
  pub received : Bool
  pub step : Step

-- how it is told: in which form, and at which time
pub record Telling : Type 0 where
  pub form : Form
  pub time : List ℕ

-- a message's code is its second byte (RFC 7252 section 3)
abbrev pub code_in : List ℕ → ℕ
code_in bytes = unwrap_or (slice_get bytes 1) 0
