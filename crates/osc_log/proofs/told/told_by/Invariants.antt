use Rattle.std.proofs.Common.{◌≡◌, ◌++◌, drop}
use Rattle.osc_log.specs.Sent.{told_by}
use Rattle.osc_log.proofs.told.told_by.Given as goal

-- what was told so far, and what will be of the datagrams that are left
abbrev pub invariant-loop-datagram : goal.invariant-loop-datagram
invariant-loop-datagram l =
    l.text.items ++ told_by l.telling l.turn l.counted (drop l.datagram-index l.datagram-items) ≡ told_by l.telling l.turn l.fn.limits l.turn.step.out
