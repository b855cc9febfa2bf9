use Rattle.std.proofs.Common.{◌≡◌, take}
use Rattle.osc_authz.specs.{In}
use Rattle.osc_run.specs.{Minted}
use Rattle.osc_run.proofs.premise.is_secret_of_one.Given as goal

-- none so far has the secret
abbrev pub invariant-loop-m : goal.invariant-loop-m
invariant-loop-m l = (m : Minted) × In m (take l.m-index l.minted) × (m.grant.secret ≡ l.secret) → ⊥
