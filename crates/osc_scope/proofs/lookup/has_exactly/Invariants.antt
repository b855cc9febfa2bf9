use Rattle.std.proofs.Common.{◌≡◌, bytes_eq, not, ◌&&◌}
use Rattle.std.specs.List.{list_any}
use Rattle.osc_scope.specs.{is_below, has}
use Rattle.osc_scope.proofs.lookup.has_exactly.Given as goal

-- the rest has one with path and method exactly where all have
abbrev pub invariant-loop-entry : goal.invariant-loop-entry
invariant-loop-entry l =
    list_any (λ entry. bytes_eq l.path entry.0 && (not (is_below entry.1) && has entry.1 l.method)) l.entry-iterator
    ≡ list_any (λ entry. bytes_eq l.path entry.0 && (not (is_below entry.1) && has entry.1 l.method)) l.entries
