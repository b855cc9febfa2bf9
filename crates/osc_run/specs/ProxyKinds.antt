-- The kind of step that a proxy may take.
use Rattle.std.specs.Prelude.{◌≡◌, Bool, Option}
use Rattle.osc_model.specs.{quiet}
use Rattle.osc_model.specs.StepNotes.{StepNotes}
use Rattle.osc_model.specs.declared.step.RefusedRequest.{RefusedRequest}

-- Whatever it sends, it seals and opens nothing (RFC 8613 section 10): it has no context. At most a request is refused, or what was due
-- was lost for lack of memory.
pub record ProxyStep (notes : StepNotes) : Type 0 where
  pub refused : Option RefusedRequest
  pub lost : Bool
  pub noted : notes ≡ record quiet { refused = refused; lost = lost }
