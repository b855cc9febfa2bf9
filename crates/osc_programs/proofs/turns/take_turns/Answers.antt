use Rattle.std.proofs.Common.{[], arith, refl}
use Rattle.osc_programs.specs.{as_it_was}
use Rattle.osc_programs.specs.Turning as spec
use Rattle.osc_programs.proofs.Passing.{passes_done, passes_none}
use Rattle.osc_programs.proofs.turns.take_turns.Goals as goal

pub returns-in-Err-clause-turns : goal.returns-in-Err-clause-turns
returns-in-Err-clause-turns g c = (
  0,
  spec.nothing_shown,
  _,
  [],
  spec.none _,
  as_it_was _,
  omega arith,
  λ done. absurd cc,
  passes_done g.P.Port.received g.P.Port.sent _ _ _ (passes_none g.P.Port.received g.P.Port.sent _),
  c.telling_goes_on.ensures.none _,
  λ keeps. keeps,
)
