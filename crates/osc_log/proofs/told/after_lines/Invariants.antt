use Rattle.std.proofs.Common.{◌≡◌, drop}
use Rattle.osc_log.specs.Sent.{after_lines}
use Rattle.osc_log.proofs.told.after_lines.Given as goal

-- what was told of each kind so far, and after the datagrams that are left
abbrev pub invariant-loop-datagram : goal.invariant-loop-datagram
invariant-loop-datagram l = after_lines l.turn l.counted (drop l._datagram-index l._datagram-items) ≡ after_lines l.turn l.fn.limits l.turn.step.out
