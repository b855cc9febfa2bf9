-- The random bytes that an event is given.
use Rattle.std.specs.Prelude.{ℕ, ◌*◌, ◌%◌, ◌+◌, ◌++◌, ◌==◌, if◌then◌else◌, List, Option, Some, None, replicate, drop}
use Rattle.std.specs.Int.{w16, w64, to_be_bytes}
use Rattle.osc_model.specs.declared.node.Draw.{Draw}
use Rattle.osc_simulation.specs.declared.draw.DrawnBefore.{DrawnBefore}

-- the event's number, from 1, twice, two zero bytes, 256 times the number modulo 65536 in two bytes, and 12 zero bytes
abbrev pub draw_of : ℕ → Draw
draw_of event =
    record { 0 = to_be_bytes w64 event ++ to_be_bytes w64 event ++ replicate 2 0 ++ to_be_bytes w16 (256 * event % 65536) ++ replicate 12 0 }

-- the same, with these first eight bytes
abbrev pub beginning_with : List ℕ → Draw → Draw
beginning_with first draw = record { 0 = first ++ drop 8 draw.0 }

-- The bytes of the event before which this number of events happened: those of its number, but for the first eight where the last `draw` line gave
-- them for this very event.
abbrev pub drawn : Option DrawnBefore → ℕ → Draw
drawn None before = draw_of (before + 1)
drawn (Some given) before = if given.event == before then beginning_with given.first (draw_of (before + 1)) else draw_of (before + 1)
