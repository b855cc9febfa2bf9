-- The table by keys, for the proofs: no public contract names it.
use Rattle.std.specs.Prelude.{ℕ, ◌≡◌, ◌<◌, ◌≤◌, ◌+◌, ◌-◌, take, drop, filter, length, count_by, Bool, true, ◌&&◌, not, nat_eq, nat_lt, List, map, Option, Some, None, if◌then◌else◌}
use Rattle.osc_model.specs.{same_peer}
use Rattle.osc_model.specs.declared.node.Moment.{Moment}
use Rattle.osc_model.specs.declared.node.Peer.{Peer}
use Rattle.osc_dedup.specs.declared.table.Remembered.{Remembered}
use Rattle.std.specs.List.{AllByRecursion}
use Rattle.std.specs.Map.{lookup}
use Rattle.osc_dedup.specs.Table.{Entry, most_entries}

-- a peer and a message ID
abbrev pub Key : Type 0
Key = Peer × ℕ

abbrev pub same_key : Key → Key → Bool
same_key first second = same_peer first.0 second.0 && nat_eq first.1 second.1

abbrev pub entry_of : Key × Remembered → Entry
entry_of e = record { peer = e.0.0; id = e.0.1; noted = e.1 }

abbrev pub entries_of : List (Key × Remembered) → List Entry
entries_of es = map entry_of es

-- whether the key isn't the one that is replaced
abbrev pub is_other : Option Key → Key → Bool
is_other None key = true
is_other (Some replaced) key = not (same_key replaced key)

abbrev pub stays : Moment → Option Key → Key × Remembered → Bool
stays now replaced e = nat_lt now.ms e.1.until && is_other replaced e.0

-- a note that lives
abbrev pub while_alive : Moment → Option Remembered → Option Remembered
while_alive now None = None
while_alive now (Some noted) = if nat_lt now.ms noted.until then Some noted else None

-- how many entries, and keys of entries that went, a map has room for
abbrev pub most_keys : ℕ
most_keys = most_entries + most_entries

-- what is noted at the key of an entry that went: it never lived
abbrev pub nothing : Remembered
nothing = record { until = 0; reply = None }

-- the first n entries went
abbrev pub AreGone : ℕ → List (Key × Remembered) → Type 0
AreGone n es = AllByRecursion (λ e. e.1.until ≡ 0) (take n es)

-- none of the entries dies before this moment, in ms
abbrev pub AllLiveUntil : ℕ → List (Key × Remembered) → Type 0
AllLiveUntil ms es = AllByRecursion (λ e. ms ≤ e.1.until) es

-- what stays where a key is noted, with a place for one more
abbrev pub others : Moment → Key → List (Key × Remembered) → List (Key × Remembered)
others now key es = drop (count_by (stays now (Some key)) es - 63) (filter (stays now (Some key)) es)

-- The entries are in a map with this much room, after the keys of those that went, and there is a place for a new one of this key.
pub record IsReady (key : Key) (entries es : List (Key × Remembered)) (room gone live : ℕ) : Type 0 where
  pub absent : lookup (same_key key) es ≡ None
  pub within : gone ≤ length es
  pub few : length es < gone + most_entries
  pub free : length es < most_keys
  pub places : most_keys ≤ length es + room
  pub before : AreGone gone es
  pub lives : AllLiveUntil live (drop gone es)
  pub is_left : drop gone es ≡ entries
