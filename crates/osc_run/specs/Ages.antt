-- How old a context is when a request is served under it.
use Rattle.std.specs.Prelude.{◌≡◌, ◌⊎◌, ℕ, ◌+◌, ◌/◌, ◌<◌, List, [], ◌∷◌, Some}
use Rattle.osc_model.specs.StepNotes.{StepNotes}
use Rattle.osc_model.specs.declared.node.Moment.{Moment}
use Rattle.osc_model.specs.declared.step.Entry.{Entry}
use Rattle.osc_authz.specs.{In, name_by}
use Rattle.osc_run.specs.History.{history}
use Rattle.osc_run.specs.Runs.{IsRun}
use Rattle.osc_run.specs.ServerKinds.{IsPosted}
use Rattle.osc_run.specs.States.{WorldState}

-- the run goes from the one of these states to the other in one step
abbrev pub AreNext : List WorldState → WorldState → WorldState → Type 0
AreNext [] old new = ⊥
AreNext (w ∷ []) old new = ⊥
AreNext (w ∷ v ∷ earlier) old new = ((old ≡ v) × (new ≡ w)) ⊎ AreNext (v ∷ earlier) old new

-- In this run a post made the entry's context, and the entry came less than `seconds` seconds after it, in whole seconds as the end of a
-- token is (RFC 8392 section 3.1.4).
pub record IsYoung (run : List WorldState) (seconds : ℕ) (entry : Entry) : Type 0 where
  pub old : WorldState
  pub new : WorldState
  pub next : AreNext run old new
  pub made_at : Moment
  pub notes : StepNotes
  pub posted : IsPosted old.server made_at notes new.server
  pub context : name_by posted.claims.material posted.post ≡ entry.context
  pub age : entry.moment.ms / 1000 < made_at.ms / 1000 + seconds

-- at a server with a greatest age of contexts, each entry of each run that leads here is so
abbrev pub AreYoung : WorldState → Type 0
AreYoung w =
    (earlier : List WorldState) (seconds : ℕ) (entry : Entry) → IsRun (w ∷ earlier)
    → w.server.rules.seconds ≡ Some seconds → In entry (history w.notes) → IsYoung (w ∷ earlier) seconds entry
