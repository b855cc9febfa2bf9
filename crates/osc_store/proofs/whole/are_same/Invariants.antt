-- What was read of the two is the same.
use Rattle.std.proofs.Common.{◌≡◌, ◌++◌, ℕ, List}
use Rattle.std.specs.FinMap as map
use Rattle.osc_model.specs.declared.resource.Resource.{Resource}
use Rattle.osc_store.proofs.whole.are_same.Given as goal

abbrev pub invariant-loop-path : goal.invariant-loop-path
invariant-loop-path l = record {
  read : List (List ℕ × Resource);
  ones : map.entries l.one ≡ read ++ l.path-iterator;
  others : map.entries l.other ≡ read ++ l.theirs;
}
