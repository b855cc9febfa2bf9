use Rattle.std.proofs.Common.{◌≡◌, ◌++◌, drop, map}
use Rattle.osc_log.specs.{shown_byte}
use Rattle.osc_log.proofs.words.shown_bytes.Given as goal

-- the bytes so far, and those that are left
abbrev pub invariant-loop-byte : goal.invariant-loop-byte
invariant-loop-byte l = l.text.items ++ map shown_byte (drop l.byte-index l.bytes) ≡ map shown_byte l.bytes
