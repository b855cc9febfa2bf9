use Rattle.std.proofs.Common.{◌≡◌}
use Rattle.std.specs.List.{list_any}
use Rattle.osc_scope.specs.{is_below}
use Rattle.osc_scope.proofs.lookup.goes_below.Given as goal

-- the rest has one that goes below exactly where all have
abbrev pub invariant-loop-entry : goal.invariant-loop-entry
invariant-loop-entry l = list_any (λ entry. is_below entry.1) l.entry-iterator ≡ list_any (λ entry. is_below entry.1) l.entries
