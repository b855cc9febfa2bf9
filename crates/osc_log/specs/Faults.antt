-- The lines of what failed.
use Rattle.std.specs.Prelude.{◌≡◌, ◌⊎◌, ℕ, List, ◌++◌, Option, Some, None, codes, decimal}
use Rattle.serde_json.specs.Data.{Members, no_members, put, string}
use Rattle.osc_log.specs.LineEnd.{line}
use Rattle.osc_log.specs.Line.{object_line}
use Rattle.osc_log.specs.declared.form.Form.{Form}
use Rattle.osc_log.specs.declared.form.Form.TheVariants.{Text, Json}

-- ---- what is told without memory

-- the words alone, or an object with the time. Neither a time nor these words have anything that JSON escapes.
abbrev pub bare_text : Form → List ℕ → List ℕ → List ℕ
bare_text Text time words = line words
bare_text Json time words = line (codes "{\"level\":\"fault\",\"time\":\"" ++ time ++ codes "\",\"why\":\"" ++ words ++ codes "\"}")

-- what is told of a turn for whose lines there was no memory
abbrev pub untold_text : Form → List ℕ → List ℕ
untold_text form time = bare_text form time (codes "out of memory: what a step did is not told")

-- what is told where there was no memory for a step
abbrev pub lost_text : Form → List ℕ → List ℕ
lost_text form time = bare_text form time (codes "out of memory: what came is lost")

-- what is told of a wall clock that is so many seconds behind the time that the node counts
abbrev pub behind_words : ℕ → List ℕ
behind_words seconds = codes "the clock is " ++ decimal seconds ++ codes " seconds behind the time of this node"

abbrev pub behind_text : Form → List ℕ → ℕ → List ℕ
behind_text form time seconds = bare_text form time (behind_words seconds)

-- what is told of so many lines that couldn't be written
abbrev pub dropped_words : ℕ → List ℕ
dropped_words count = decimal count ++ codes " lines could not be written"

abbrev pub dropped_text : Form → List ℕ → ℕ → List ℕ
dropped_text form time count = bare_text form time (dropped_words count)

-- ---- faults in words

-- the words alone, or "level" and "why"
abbrev pub fault_members : List ℕ → Members
fault_members words = put (codes "why") (string words) (put (codes "level") (string (codes "fault")) no_members)

abbrev pub fault_text : Form → List ℕ → List ℕ
fault_text Text words = line words
fault_text Json words = object_line (fault_members words)

-- what is told where there was no memory to say why settings are none
abbrev pub unsaid_text : Form → List ℕ
unsaid_text form = fault_text form (codes "out of memory: why the settings are bad is not told")

-- what is told of settings that are none, in these words where there are any; a line of text takes no memory, an object does
abbrev pub IsUnreadText : Form → Option (List ℕ) → List ℕ → Type 0
IsUnreadText form None text = text ≡ unsaid_text form
IsUnreadText Text (Some words) text = text ≡ fault_text Text words
IsUnreadText Json (Some words) text = (text ≡ fault_text Json words) ⊎ (text ≡ unsaid_text Json)
