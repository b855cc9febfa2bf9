use Rattle.std.proofs.Common.{map}
use Rattle.osc_scope.specs.{Names}
use Rattle.osc_scope.proofs.text.methods.Given as goal

-- the names so far are those of the methods in the set
abbrev pub invariant-loop-name : goal.invariant-loop-name
invariant-loop-name l = record {
  can_next : (goal.iterator-loop-name).can_next l.name-iterator;
  is_finite : (goal.iterator-loop-name).is_finite l.name-iterator;
  names : Names (map (λ name. name.now) l.yielded) l.mask;
}
