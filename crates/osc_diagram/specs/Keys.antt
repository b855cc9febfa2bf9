-- The keys of a run's contexts, for Wireshark.
use Rattle.std.specs.Prelude.{ℕ, Bool, if◌then◌else◌, List, [], ◌∷◌, ◌++◌, fold, Option, Some, None}
use Rattle.std.specs.List.{list_any}
use Rattle.std.specs.Str.{bytes_eq}
use Rattle.osc_diagram.specs.Chart.{key_line}
use Rattle.osc_model.specs.declared.step.Note.{Note}
use Rattle.osc_run.specs.{Noted}

abbrev pub has_line : List (List ℕ) → List ℕ → Bool
has_line lines line = list_any (λ other. bytes_eq other line) lines

-- a line after the others, if it isn't among them
abbrev pub with_line : List (List ℕ) → List ℕ → List (List ℕ)
with_line lines line = if has_line lines line then lines else lines ++ line ∷ []

-- the line of the context under which something was sealed
abbrev pub with_seal : List (List ℕ) → Option Note → List (List ℕ)
with_seal lines None = lines
with_seal lines (Some note) = with_line lines (key_line note.context)

-- a line for each context under which a step sealed, once, in the order in which they first did
abbrev pub keys_of : List Noted → List (List ℕ)
keys_of steps = fold (λ lines step. with_seal lines step.notes.seals) [] steps
