use Rattle.std.proofs.Common.{◌≡◌, ◌+◌, ◌++◌, drop}
use Rattle.osc_diagram.specs.Marks.{arrows}
use Rattle.osc_diagram.proofs.marks.add_arrows.Given as goal

-- the arrows so far, and those of the datagrams that are left
abbrev pub invariant-loop-datagram : goal.invariant-loop-datagram
invariant-loop-datagram l = record {
  number : l.number ≡ l.fn.before + l.datagram-index;
  drawn : l.marks.items ++ arrows l.lost l.said.0 l.said.1 l.number (drop l.datagram-index l.datagrams)
      ≡ l.initial.marks.items ++ arrows l.lost l.said.0 l.said.1 l.fn.before l.datagrams;
}
