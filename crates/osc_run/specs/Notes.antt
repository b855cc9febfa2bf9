-- What is noted of the steps of a run.
pub use Rattle.osc_run.specs.declared.noted.Actor.{Actor}
pub use Rattle.osc_run.specs.declared.noted.Actor.TheVariants.{Server as ByServer, Client as ByClient, Proxy as ByProxy}
use Rattle.std.specs.Prelude.{ℕ, Bool, false, List, [], ◌∷◌, ◌++◌, Option, option_to_list}
use Rattle.osc_model.specs.StepNotes.{StepNotes}

-- A step as it is noted: whose it was, whether the holder of a client's context sealed what it liked, and what the step sealed,
-- opened, served, learnt and drew.
pub record Noted : Type 0 where
  pub actor : Actor
  pub lied : Bool
  pub notes : StepNotes

-- a step of the server, of a client and of a proxy
abbrev pub by_server : StepNotes → Noted
by_server notes = record { actor = ByServer; lied = false; notes = notes }

abbrev pub by_client : ℕ → Bool → StepNotes → Noted
by_client number lied notes = record { actor = ByClient number; lied = lied; notes = notes }

abbrev pub by_proxy : ℕ → StepNotes → Noted
by_proxy number notes = record { actor = ByProxy number; lied = false; notes = notes }

-- What some of the steps had of one kind, the oldest first. Of the steps themselves the newest is first.
abbrev pub collected : {A : Type 0} → (Noted → Option A) → List Noted → List A
collected part [] = []
collected part (step ∷ earlier) = collected part earlier ++ option_to_list (part step)

-- What is kept of a run: the notes, the newest first, and for how many steps more there is room already.
pub record Kept : Type 0 where
  pub steps : List Noted
  pub room : ℕ
