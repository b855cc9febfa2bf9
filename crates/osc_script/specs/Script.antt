-- What a whole script says.
use Rattle.std.specs.Prelude.{◌≡◌, ℕ, ◌+◌, ◌==◌, List, [], ◌∷◌, ◌++◌, length}
use Rattle.std.specs.List.{slice_split}
use Rattle.osc_script.specs.Line.{StandsFor}
use Rattle.osc_script.specs.declared.line.Line.{Line}

-- the lines of what is between line feeds: nothing after the last one is no line
abbrev pub without_empty_last : List (List ℕ) → List (List ℕ)
without_empty_last [] = []
without_empty_last ([] ∷ []) = []
without_empty_last (part ∷ parts) = part ∷ without_empty_last parts

-- lines end with a line feed, which the last may lack
abbrev pub lines_of : List ℕ → List (List ℕ)
lines_of text = without_empty_last (slice_split (λ b. b == 10) text)

-- each text stands for its line, with those above it
abbrev pub StandFor : List Line → List (List ℕ) → List Line → Type 0
StandFor above [] [] = Unit {0}
StandFor above [] (line ∷ lines) = ⊥
StandFor above (text ∷ texts) [] = ⊥
StandFor above (text ∷ texts) (line ∷ lines) = StandsFor above text line × StandFor (above ++ line ∷ []) texts lines

-- the script says these lines
abbrev pub IsScript : List ℕ → List Line → Type 0
IsScript text lines = StandFor [] (lines_of text) lines

-- the text n of these, counted from 1, is the first that applies for nothing
pub record IsFirstBadIn (texts : List (List ℕ)) (n : ℕ) : Type 0 where
  pub before : List (List ℕ)
  pub bad : List ℕ
  pub after : List (List ℕ)
  pub lines : List Line
  pub whole : texts ≡ before ++ bad ∷ after
  pub count : n ≡ length before + 1
  pub good : StandFor [] before lines
  pub nothing : (line : Line) → ¬ StandsFor lines bad line

-- line n of the script is
abbrev pub IsFirstBad : List ℕ → ℕ → Type 0
IsFirstBad text n = IsFirstBadIn (lines_of text) n
