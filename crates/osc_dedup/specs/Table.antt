-- The messages that were noted lately, the oldest first (RFC 7252 sections 4.2, 4.5 and 4.8.2).
use Rattle.std.specs.Prelude.{ℕ, ◌+◌, ◌-◌, Bool, ◌&&◌, not, nat_eq, nat_lt, List, [], ◌∷◌, ◌++◌, length, filter, drop, find, Option}
use Rattle.std.specs.Option.{option_map}
use Rattle.osc_model.specs.{same_peer}
use Rattle.osc_model.specs.declared.node.Moment.{Moment}
use Rattle.osc_model.specs.declared.node.Peer.{Peer}
use Rattle.osc_dedup.specs.declared.table.Remembered.{Remembered}

-- how many entries a table has at most
abbrev pub most_entries : ℕ
most_entries = 64

-- a message, named by its sender and its message ID, and what was noted of it
pub record Entry : Type 0 where
  pub peer : Peer
  pub id : ℕ
  pub noted : Remembered

-- whether the entry is of this message: the same peer and message ID
abbrev pub is_of : Peer → ℕ → Entry → Bool
is_of peer id entry = same_peer peer entry.peer && nat_eq id entry.id

-- an entry lives before its end
abbrev pub is_alive : Moment → Entry → Bool
is_alive now entry = nat_lt now.ms entry.noted.until

abbrev pub alive : Moment → List Entry → List Entry
alive now entries = filter (is_alive now) entries

-- what stays where a message is noted: the living entries of other messages
abbrev pub staying : Moment → Peer → ℕ → List Entry → List Entry
staying now peer id entries = filter (λ entry. is_alive now entry && not (is_of peer id entry)) entries

-- The table once a message is noted: it comes last, and the oldest go where they would be more than the most with it.
abbrev pub with_note : Moment → Peer → ℕ → Remembered → List Entry → List Entry
with_note now peer id noted entries =
    let others = staying now peer id entries in
    drop (length others + 1 - most_entries) others ++ (record { peer = peer; id = id; noted = noted }) ∷ []

-- what was noted of a message, while it lives
abbrev pub looked : Moment → Peer → ℕ → List Entry → Option Remembered
looked now peer id entries = option_map (λ entry. entry.noted) (find (is_of peer id) (alive now entries))
