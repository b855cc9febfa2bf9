-- What a log does to what it writes to: it puts lines there, counts those that it can't put, and tells how many these are.
use Rattle.std.specs.Prelude.{◌≡◌, ◌⊎◌, ◌≤◌, ◌<◌, ◌==◌, ◌-◌, ℕ, List, [], ◌∷◌, ◌++◌, Option, count_by, max}
use Rattle.std.specs.Io.KnownBytes.{Appends}
use Rattle.osc_model.specs.declared.node.Moment.{Moment}
use Rattle.osc_log.specs.Counters.{more}
use Rattle.osc_log.specs.Faults.{dropped_text}
use Rattle.osc_log.specs.Time.{IsTime}
use Rattle.osc_log.specs.declared.form.Form.{Form}
use Rattle.osc_log.specs.declared.output.Output.{Output}

-- what was written so far, where contracts can see it; how many lines couldn't be; and of how many of these it was told
pub record Written : Type 0 where
  pub text : Option (List ℕ)
  pub dropped : ℕ
  pub admitted : ℕ

-- no line was dropped yet
abbrev pub none_dropped : Option (List ℕ) → Written
none_dropped text = record { text = text; dropped = 0; admitted = 0 }

-- how many lines end in what is left of a text; it is one at least, where anything is left
abbrev pub lines_left : List ℕ → ℕ
lines_left [] = 0
lines_left (byte ∷ bytes) = max (count_by (λ b. b == 10) (byte ∷ bytes)) 1

-- This text, or a beginning of it, was put after what was there. Each line whose end wasn't put counts as dropped, and no other does.
pub record Puts (old new : Written) (text : List ℕ) : Type 0 where
  pub put : List ℕ
  pub left : List ℕ
  pub parts : text ≡ put ++ left
  pub appends : Appends old.text new.text put
  pub dropped : new.dropped ≡ more old.dropped (lines_left left)
  pub admitted : new.admitted ≡ old.admitted

-- it was told of all of them, where nothing of its line is left
abbrev pub admitted_by : List ℕ → Written → ℕ
admitted_by [] old = old.dropped
admitted_by (byte ∷ bytes) old = old.admitted

-- The line of how many were dropped since it was told last was put after what was there, or a beginning of it. It counts as no line itself.
pub record Admitted (form : Form) (now : Moment) (old new : Written) : Type 0 where
  pub time : List ℕ
  pub is_time : IsTime now time
  pub put : List ℕ
  pub left : List ℕ
  pub parts : dropped_text form time (old.dropped - old.admitted) ≡ put ++ left
  pub appends : Appends old.text new.text put
  pub dropped : new.dropped ≡ old.dropped
  pub admitted : new.admitted ≡ admitted_by left old

-- it is told how many lines were dropped, where more were than it was told of
abbrev pub Admits : Form → Moment → Written → Written → Type 0
Admits form now old new = ((old.dropped ≤ old.admitted) × (new ≡ old)) ⊎ ((old.admitted < old.dropped) × Admitted form now old new)

-- what an output wrote and dropped, where its writer has these contents
abbrev pub written_by : {W : Type 0} → (W → Option (List ℕ)) → Output W → Written
written_by contents output = record { text = contents output.writer; dropped = output.dropped; admitted = output.admitted }
