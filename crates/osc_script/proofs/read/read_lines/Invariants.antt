use Rattle.std.proofs.Common.{[], map, take}
use Rattle.osc_script.specs.Inner.Place.{IsPlace}
use Rattle.osc_script.specs.{StandFor}
use Rattle.osc_script.proofs.read.read_lines.Given as goal

-- the lines so far are what the texts so far stand for, and what is kept is so of them
abbrev pub invariant-loop-text : goal.invariant-loop-text
invariant-loop-text l = record {
  lines : StandFor [] (map (λ text. text.now) (take l.text-index l.texts)) l.lines.items;
  place : IsPlace l.lines.items l.place;
}
