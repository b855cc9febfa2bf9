use Rattle.std.proofs.Common.{◌≡◌, ◌++◌, drop, flat_map}
use Rattle.osc_script.specs.{client_name}
use Rattle.osc_simulation.specs.{alone_line}
use Rattle.osc_simulation.proofs.trace.alone_text.Given as goal

-- the lines so far, and those of the answers that are left
abbrev pub invariant-loop-answer : goal.invariant-loop-answer
invariant-loop-answer l =
    l.lines.items ++ flat_map (alone_line (client_name l.client)) (drop l.answer-index l.answers) ≡ flat_map (alone_line (client_name l.client)) l.answers
