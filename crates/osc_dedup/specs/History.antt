-- Which entries are in the table, by all that was noted (RFC 7252 sections 4.2 and 4.5).
use Rattle.std.specs.Prelude.{◌≡◌, ◌+◌, ◌<◌, ◌≤◌, false, not, List, [], ◌∷◌, ◌++◌, length, filter}
use Rattle.std.specs.List.{All}
use Rattle.osc_model.specs.declared.node.Moment.{Moment}
use Rattle.osc_dedup.specs.Table.{most_entries, Entry, is_of, staying, with_note}

-- an entry, and when it was noted; lists of notes have the newest first
pub record Note : Type 0 where
  pub moment : Moment
  pub entry : Entry

-- no moment is before an earlier one or after now
abbrev pub AreInOrder : Moment → List Note → Type 0
AreInOrder now [] = Unit {0}
AreInOrder now (note ∷ earlier) = (note.moment.ms ≤ now.ms) × AreInOrder note.moment earlier

-- the table that they make
abbrev pub table_of : List Note → List Entry
table_of [] = []
table_of (note ∷ earlier) = with_note note.moment note.entry.peer note.entry.id note.entry.noted (table_of earlier)

-- the entries that no later note of the same message has replaced, the oldest first
abbrev pub unreplaced : List Note → List Entry
unreplaced [] = []
unreplaced (note ∷ earlier) = filter (λ entry. not (is_of note.entry.peer note.entry.id entry)) (unreplaced earlier) ++ note.entry ∷ []

-- The entry was noted and is alive now; the younger notes are of other messages; and at each of them, with its own
-- entry, fewer than the most younger entries were alive.
pub record IsThere (notes : List Note) (now : Moment) (entry : Entry) : Type 0 where
  pub younger : List Note
  pub older : List Note
  pub moment : Moment
  pub is_noted : notes ≡ younger ++ (record { moment = moment; entry = entry }) ∷ older
  pub lives : now.ms < entry.noted.until
  pub latest : All (λ note. is_of entry.peer entry.id note.entry ≡ false) younger
  pub had_place : (newer between : List Note) (note : Note) → younger ≡ newer ++ note ∷ between
      → length (staying note.moment note.entry.peer note.entry.id (unreplaced between)) + 1 < most_entries
