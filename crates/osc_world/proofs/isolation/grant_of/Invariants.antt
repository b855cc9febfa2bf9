use Rattle.std.proofs.Common.{◌≡◌, drop}
use Rattle.osc_model.specs.{grant_of, held_by}
use Rattle.osc_run.specs.{grants_of}
use Rattle.osc_world.proofs.isolation.grant_of.Given as goal

-- it is not among those so far
abbrev pub invariant-loop-m : goal.invariant-loop-m
invariant-loop-m l =
    grant_of (held_by l.client (grants_of l.minted)) l.name ≡ grant_of (held_by l.client (grants_of (drop l.m-index l.minted))) l.name
