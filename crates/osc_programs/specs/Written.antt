-- What an output has that failed, or that a program ended early.
use Rattle.std.specs.Prelude.{◌≡◌, ℕ, List, [], ◌++◌, Option, codes}
use Rattle.std.specs.Io.KnownBytes.{Appends}
use Rattle.osc_simulation.specs.{line}

-- one text was written, and after it the other, or a beginning of that
pub record IsBegunAfter (before text : List ℕ) (old new : Option (List ℕ)) : Type 0 where
  pub put : List ℕ
  pub left : List ℕ
  pub parts : text ≡ put ++ left
  pub appends : Appends old new (before ++ put)

-- a text was written, or a beginning of it
abbrev pub IsBegun : List ℕ → Option (List ℕ) → Option (List ℕ) → Type 0
IsBegun text old new = IsBegunAfter [] text old new

-- what is told last where memory ran out
abbrev pub last_line : List ℕ
last_line = line (codes "out of memory")
