use Rattle.std.proofs.Common.{◌≡◌, ℕ, ◌<◌, ◌||◌, drop}
use Rattle.osc_authz.specs.Inner.Lives.{alive_by}
use Rattle.osc_authz.specs.Inner.Marks.{is_among, is_marked}
use Rattle.osc_authz.specs.{ids, without_pending}
use Rattle.osc_authz.proofs.marks.mark_staying.Given as goal

-- what is marked or yet to be marked is what was so at first
abbrev pub invariant-loop-entry : goal.invariant-loop-entry
invariant-loop-entry l =
    (byte : ℕ) → byte < 256
    → (is_among (ids (without_pending l.token (alive_by l.now l.revoked (drop l.entry-index l.table)))) byte || is_marked l.marks byte)
    ≡ (is_among (ids (without_pending l.token (alive_by l.now l.revoked l.table))) byte || is_marked l.initial.marks byte)
