-- What a step did beside sending.
use Rattle.std.specs.Prelude.{ℕ, Bool, false, List, Option, None}
use Rattle.osc_model.specs.declared.step.ClientResult.{ClientResult}
use Rattle.osc_model.specs.declared.step.Entry.{Entry}
use Rattle.osc_model.specs.declared.step.Note.{Note}
use Rattle.osc_model.specs.declared.step.RefusedRequest.{RefusedRequest}

-- what it sealed, opened, served, learnt, drew, refused and lost, and whose token it went by: all of it but its datagrams
pub record StepNotes : Type 0 where
  pub seals : Option Note
  pub opens : Option Note
  pub served : Option Entry
  pub result : Option ClientResult
  pub drawn : Option (List ℕ)
  pub refused : Option RefusedRequest
  -- what was due was lost for lack of memory
  pub lost : Bool
  -- the id of the token that a post was agreed to with, or that made the context of the request that was served
  pub holder : Option (List ℕ)

-- nothing of it
abbrev pub quiet : StepNotes
quiet = record { seals = None; opens = None; served = None; result = None; drawn = None; refused = None; lost = false; holder = None }

-- nothing of it but that what was due was lost, if it was
abbrev pub quiet_or_lost : Bool → StepNotes
quiet_or_lost lost = record quiet { lost = lost }
