use Rattle.std.proofs.Common.{◌≡◌, ◌++◌, drop, flat_map, string_bytes}
use Rattle.osc_programs.specs.{quoted_char}
use Rattle.osc_programs.proofs.dumping.quoted_chars.Given as goal

-- the characters so far, and those of what is left
abbrev pub invariant-loop-letter : goal.invariant-loop-letter
invariant-loop-letter l = string_bytes l.text ++ flat_map quoted_char (drop l.letter-index l.letters) ≡ flat_map quoted_char l.letters
