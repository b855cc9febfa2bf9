-- A line of numbers under keys, as text or as one JSON object.
use Rattle.std.specs.Prelude.{ℕ, List, ◌++◌, codes, decimal}
use Rattle.serde_json.specs.Data.{Members, no_members, number, object, put, string, unsigned}
use Rattle.serde_json.specs.Written.{compact_text}
use Rattle.osc_model.specs.declared.node.Moment.{Moment}
use Rattle.osc_log.specs.LineEnd.{line}
use Rattle.osc_log.specs.declared.form.Form.{Form}
use Rattle.osc_log.specs.declared.form.Form.TheVariants.{Text, Json}

-- ---- objects (RFC 8259)

-- "level" and "time"
abbrev pub begun_members : List ℕ → List ℕ → Members
begun_members time level = put (codes "level") (string level) (put (codes "time") (string time) no_members)

-- an object on a line of its own, without spaces, its members in the order of their keys
abbrev pub object_line : Members → List ℕ
object_line members = line (compact_text (object members))

-- ---- lines of either form

-- a line as it grows: its text, or the members of its object
pub data Growing : Type 0 where
  text : List ℕ → Growing
  json : Members → Growing

-- MOMENT LEVEL, or an object of this time and level
abbrev pub begun : Form → Moment → List ℕ → List ℕ → Growing
begun Text now time level = text (decimal now.ms ++ codes " " ++ level)
begun Json now time level = json (begun_members time level)

-- KEY=NUMBER more
abbrev pub with_number : List ℕ → ℕ → Growing → Growing
with_number key n (text so_far) = text (so_far ++ codes " " ++ key ++ codes "=" ++ decimal n)
with_number key n (json members) = json (put key (number (unsigned n)) members)

abbrev pub ended : Growing → List ℕ
ended (text so_far) = line so_far
ended (json members) = object_line members
