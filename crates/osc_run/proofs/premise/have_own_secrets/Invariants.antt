use Rattle.std.proofs.Common.{drop}
use Rattle.osc_run.specs.{HasOwnSecrets}
use Rattle.osc_run.proofs.premise.have_own_secrets.Given as goal

-- all have secrets of their own if those that are left have
abbrev pub invariant-loop-i : goal.invariant-loop-i
invariant-loop-i l = HasOwnSecrets (drop l.i l.minted) → HasOwnSecrets l.minted
