-- What a log says of requests that are served.
use Rattle.std.specs.Prelude.{◌≡◌, ◌⊎◌, ℕ, List, [], ◌∷◌, ◌++◌, Some, None, All}
use Rattle.osc_model.specs.declared.step.Datagram.{Datagram}
use Rattle.osc_model.specs.declared.step.Entry.{Entry}
use Rattle.osc_log.specs.Faults.{untold_text}
use Rattle.osc_log.specs.Sent.{line_text, telling_of}
use Rattle.osc_log.specs.Time.{IsTime}
use Rattle.osc_log.specs.Turns.{Telling, Turn}
use Rattle.osc_log.specs.declared.form.Form.{Form}

-- it serves a request
abbrev pub Serves : Turn → Type 0
Serves turn = (entry : Entry) × (turn.step.notes.served ≡ Some entry) × (turn.step.notes.refused ≡ None)

-- a line for each of these datagrams
abbrev pub lines_by : Telling → Turn → List Datagram → List ℕ
lines_by telling turn [] = []
lines_by telling turn (datagram ∷ out) = line_text telling turn datagram ++ lines_by telling turn out

-- the lines of a turn at this time
abbrev pub lines_of : Form → List ℕ → Turn → List ℕ
lines_of form time turn = lines_by (telling_of form time) turn turn.step.out

-- they stand in it, one right after the other
abbrev pub StandsIn : List ℕ → List ℕ → Type 0
StandsIn lines text = (before : List ℕ) × (after : List ℕ) × (text ≡ before ++ lines ++ after)

-- The lines of the turn stand in the text, or, where there was no memory for them, what is told of that.
pub record IsTold (form : Form) (turn : Turn) (text : List ℕ) : Type 0 where
  pub time : List ℕ
  pub is_time : IsTime turn.now time
  pub stands : StandsIn (lines_of form time turn) text ⊎ StandsIn (untold_text form time) text
