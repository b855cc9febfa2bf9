use Rattle.std.proofs.Common.{◌≡◌, drop, length}
use Rattle.osc_simulation.specs.{AllEnrolled}
use Rattle.osc_world.specs.{Beginning}
use Rattle.osc_simulation.proofs.set_up.enroll_all.Given as goal

-- what is left enrolls what all lines do
abbrev pub invariant-loop-line : goal.invariant-loop-line
invariant-loop-line l = record {
  count : l.enrolled ≡ length l.start.clients;
  rest : (last : Beginning) → AllEnrolled l.lines l.start (drop l.line-index l.lines) last → AllEnrolled l.lines l.initial.start l.lines last;
}
