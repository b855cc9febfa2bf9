use Rattle.std.proofs.Common.{subst}
use Rattle.osc_world.specs.{deed_of, Takes}
use Rattle.osc_world.proofs.Apart.{apart_after}
use Rattle.osc_world.proofs.Going.{reached_after, happened}
use Rattle.osc_world.proofs.world.World.happens.Goals as goal

pub invariant_of-self-2 : goal.invariant_of-self-2
invariant_of-self-2 g c =
    let w = c.self.inside in (
      reached_after w.minted.items w.first w.nodes c.take.new.self w.log.steps c.reserve.new.self.steps c.keep.new.self.steps c.args.event.now.moment c.in_ok-taken.taken
          c.in_ok-taken.ensures.step c.reserve.ensures.steps c.keep.ensures.steps c.self.invariant.0,
      apart_after g.A.Ciphers.is_sealing g.A.Ciphers.TAG w.nodes c.take.new.self (deed_of w.nodes c.sent-2.result.now c.args.event.now) c.in_ok-taken.taken c.in_ok-taken.ensures.takes c.self.invariant.1,
    )

pub returns-clause-happens : goal.returns-clause-happens
returns-clause-happens g c =
    let w = c.self.inside in
    let event = c.args.event.now in
    happened g.A.Ciphers.is_sealing g.A.Ciphers.TAG c.args.self.now w.minted.items w.first w.nodes c.take.new.self w.log c.reserve.new.self c.keep.new.self event c.in_ok-taken.taken
    c.self.view_is c.reserve.ensures.sent c.reserve.ensures.steps c.reserve.ensures.records
    (subst (λ s. Takes g.A.Ciphers.is_sealing g.A.Ciphers.TAG w.nodes (deed_of w.nodes s event) c.in_ok-taken.taken c.take.new.self) c.sent-2.ensures c.in_ok-taken.ensures.takes)
    c.keep.ensures
