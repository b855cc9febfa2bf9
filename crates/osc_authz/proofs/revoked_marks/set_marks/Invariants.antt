use Rattle.std.proofs.Common.{◌≡◌, ℕ, if◌then◌else◌, drop}
use Rattle.std.specs.List.{list_any}
use Rattle.osc_authz.specs.Inner.Marks.{is_marked}
use Rattle.osc_authz.specs.Inner.Revoking.{is_revoked_at, is_such}
use Rattle.osc_authz.specs.{contexts}
use Rattle.osc_authz.proofs.revoked_marks.set_marks.Given as goal

-- what is set or yet to be set is what is to be set of all
abbrev pub invariant-loop-entry : goal.invariant-loop-entry
invariant-loop-entry l =
    (byte : ℕ)
    → (if list_any (is_such (is_revoked_at l.path) byte) (contexts (drop l.entry-index l.table)) then l.mark else is_marked l.marks byte)
    ≡ (if list_any (is_such (is_revoked_at l.path) byte) (contexts l.table) then l.mark else is_marked l.initial.marks byte)
