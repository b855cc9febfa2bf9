use Rattle.std.proofs.Common.{◌≡◌, ℕ, true, if◌then◌else◌, drop}
use Rattle.std.specs.List.{list_any}
use Rattle.osc_authz.specs.Inner.Marks.{is_marked}
use Rattle.osc_authz.specs.Inner.Revoking.{is_revoked_in, is_such}
use Rattle.osc_authz.specs.{contexts}
use Rattle.osc_authz.proofs.revoked_marks.mark_revoked.Given as goal

-- what is set or yet to be set is what is to be set of all
abbrev pub invariant-loop-entry : goal.invariant-loop-entry
invariant-loop-entry l =
    (byte : ℕ)
    → (if list_any (is_such (is_revoked_in l.tree) byte) (contexts (drop l.entry-index l.table)) then true else is_marked l.marks byte)
    ≡ (if list_any (is_such (is_revoked_in l.tree) byte) (contexts l.table) then true else is_marked l.initial.marks byte)
