use Rattle.std.proofs.Common.{◌≡◌, ◌++◌, drop, true}
use Rattle.osc_simulation.specs.{words_before}
use Rattle.osc_simulation.proofs.trace.words_before.Given as goal

-- the bytes so far, and what is left behind them
abbrev pub invariant-loop-byte : goal.invariant-loop-byte
invariant-loop-byte l = l.lines.items ++ words_before l.words l.begins (drop l.byte-index l.text) ≡ words_before l.words true l.text
