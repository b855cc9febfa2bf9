use Rattle.std.proofs.Common.{ℕ, Bool, ◌+◌, ◌≤◌}
use Rattle.osc_world.specs.{AreWhole, Rounds, Happens, State}
use Rattle.osc_world.proofs.world.World.rounds.Given as goal

-- this number of deliveries more from here is, with those so far, a quiet round from the beginning
abbrev pub invariant-loop : goal.invariant-loop
invariant-loop g l = record {
  within : l.counter ≤ l.fn.limit;
  whole : AreWhole (g.D.Draws.drawn l.fn.draws) l.fn.self l.self;
  rounds : (left : ℕ) (quiet : Bool) (new : State)
      → Rounds (Happens g.A.Ciphers.is_sealing g.A.Ciphers.TAG) (record { drawn = g.D.Draws.drawn l.draws; at = l.now }) left l.self quiet new
      → Rounds (Happens g.A.Ciphers.is_sealing g.A.Ciphers.TAG) (record { drawn = g.D.Draws.drawn l.fn.draws; at = l.fn.now }) (l.counter + left) l.fn.self quiet new;
}
