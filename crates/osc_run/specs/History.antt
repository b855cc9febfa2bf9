-- What was served, asked and accepted in a run, each the oldest first.
use Rattle.std.specs.Prelude.{ℕ, Bool, List, Option, Some, None}
use Rattle.osc_model.specs.declared.context.ContextName.{ContextName}
use Rattle.osc_model.specs.declared.reply.Reply.{Reply}
use Rattle.osc_model.specs.declared.step.ClientResult.{ClientResult}
use Rattle.osc_model.specs.declared.step.ClientResult.TheVariants as result
use Rattle.osc_model.specs.declared.step.Entry.{Entry}
use Rattle.osc_model.specs.declared.step.Note.{Note}
use Rattle.osc_run.specs.Notes.{Noted, Actor, ByClient, collected}

-- the history: the requests that were served
abbrev pub history : List Noted → List Entry
history notes = collected (λ step. step.notes.served) notes

-- a request that a client sealed or, in a lie, its holder
pub record Question : Type 0 where
  pub by : ℕ
  pub lied : Bool
  pub context : ContextName
  pub number : ℕ
  pub plaintext : List ℕ

-- the one of a step: of a client's seal
abbrev pub question_in : Actor → Bool → Option Note → Option Question
question_in (ByClient by) lied (Some note) =
    Some (record { by = by; lied = lied; context = note.context; number = note.number; plaintext = note.plaintext })
question_in actor lied seals = None

-- the requests that were asked
abbrev pub questions : List Noted → List Question
questions notes = collected (λ step. question_in step.actor step.lied step.notes.seals) notes

-- a reply that a client accepted as that of a request of its own
pub record Acceptance : Type 0 where
  pub by : ℕ
  pub context : ContextName
  pub number : ℕ
  pub reply : Reply

-- the one of a step: where a client's result is an answer, of what it opened
abbrev pub acceptance_in : Actor → Option ClientResult → Option Note → Option Acceptance
acceptance_in (ByClient by) (Some (result.Answer reply)) (Some note) =
    Some (record { by = by; context = note.context; number = note.number; reply = reply })
acceptance_in actor result opens = None

-- the replies that were accepted
abbrev pub acceptances : List Noted → List Acceptance
acceptances notes = collected (λ step. acceptance_in step.actor step.notes.result step.notes.opens) notes
