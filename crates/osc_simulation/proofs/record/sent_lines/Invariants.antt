use Rattle.std.proofs.Common.{◌≡◌, ◌+◌, ◌++◌, List, ℕ, drop}
use Rattle.osc_simulation.specs.{PrintAllSent}
use Rattle.osc_simulation.proofs.record.sent_lines.Given as goal

-- what the datagrams that are left print goes after the lines so far
abbrev pub invariant-loop-datagram : goal.invariant-loop-datagram
invariant-loop-datagram l = record {
  number : l.number ≡ l.fn.before + l.datagram-index;
  prints : (rest : List ℕ) → PrintAllSent l.with_bytes (l.number + 1) (drop l.datagram-index l.datagrams) rest → PrintAllSent l.with_bytes (l.fn.before + 1) l.datagrams (l.lines.items ++ rest);
}
