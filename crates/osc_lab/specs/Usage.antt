-- Which lines a lab uses, and the first line of a script that it doesn't.
use Rattle.std.specs.Prelude.{◌≡◌, ◌+◌, ◌⊎◌, ℕ, Bool, true, false, List, [], ◌∷◌, ◌++◌, length}
use Rattle.std.specs.List.{list_all}
use Rattle.osc_script.specs.{StandFor, StandsFor, lines_of}
use Rattle.osc_script.specs.declared.line.Line.{Line}
use Rattle.osc_script.specs.declared.line.Line.TheVariants.{Skipped, Put, Open, Revoked, Grant, Via, Exchange, Ask}

-- the lines that set up the nodes, and those by which a client exchanges or asks
abbrev pub is_used : Line → Bool
is_used Skipped = true
is_used (Put path resource) = true
is_used (Open path) = true
is_used (Revoked path) = true
is_used (Grant client scope not_before expires alg) = true
is_used (Via client proxy) = true
is_used (Exchange client) = true
is_used (Ask client request) = true
is_used line = false

-- a text, with these lines above it, stands for nothing, or for a line of another kind
abbrev pub IsUnused : List Line → List ℕ → Type 0
IsUnused above text = ((line : Line) → ¬ StandsFor above text line) ⊎ ((line : Line) × StandsFor above text line × (is_used line ≡ false))

-- the text n of these, counted from 1, is the first that does
pub record IsFirstUnusedIn (texts : List (List ℕ)) (n : ℕ) : Type 0 where
  pub before : List (List ℕ)
  pub bad : List ℕ
  pub after : List (List ℕ)
  pub lines : List Line
  pub whole : texts ≡ before ++ bad ∷ after
  pub count : n ≡ length before + 1
  pub good : StandFor [] before lines
  pub used : list_all is_used lines ≡ true
  pub unused : IsUnused lines bad

-- line n of the script is
abbrev pub IsFirstUnused : List ℕ → ℕ → Type 0
IsFirstUnused text n = IsFirstUnusedIn (lines_of text) n
