use Rattle.std.proofs.Common.{◌≡◌, ◌≤◌, take}
use Rattle.osc_programs.specs.{AreRevoked, KeepsTree, with_revoked}
use Rattle.osc_programs.proofs.revoking.revoke_all.Given as goal

-- the ids so far are revoked, and kept
abbrev pub invariant-loop-id : goal.invariant-loop-id
invariant-loop-id g l =
    (l.tree ≡ with_revoked l.root (take l.id-index l.ids) l.initial.tree)
    × AreRevoked l.root l.tree (take l.id-index l.ids)
    × (KeepsTree g.K.KeepsSteps.keeps l.initial.keeper l.initial.tree → KeepsTree g.K.KeepsSteps.keeps l.keeper l.tree)
    × (g.K.KeepsSteps.faults l.initial.keeper ≤ g.K.KeepsSteps.faults l.keeper)
    × (g.K.KeepsSteps.trusted l.keeper → g.K.KeepsSteps.trusted l.initial.keeper)
    × (g.K.KeepsSteps.file l.keeper ≡ g.K.KeepsSteps.file l.initial.keeper)
