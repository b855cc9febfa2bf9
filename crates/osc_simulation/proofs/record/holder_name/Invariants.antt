use Rattle.std.proofs.Common.{◌≡◌, drop}
use Rattle.osc_simulation.specs.{holder_text}
use Rattle.osc_simulation.proofs.record.holder_name.Given as goal

-- no grant so far has the secret
abbrev pub invariant-loop-m : goal.invariant-loop-m
invariant-loop-m l = holder_text l.clients (drop l.m-index l.minted) l.secret ≡ holder_text l.clients l.minted l.secret
