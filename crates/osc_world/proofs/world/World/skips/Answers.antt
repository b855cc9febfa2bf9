use Rattle.std.proofs.Common.{subst, sym}
use Rattle.osc_world.specs.{StandApart}
use Rattle.osc_world.proofs.Apart.{apart_skipped}
use Rattle.osc_world.proofs.Going.{skips_on}
use Rattle.osc_world.proofs.world.World.skips.Goals as goal

pub invariant_of-self : goal.invariant_of-self
invariant_of-self c =
    let w = c.self.inside in (
      skips_on w.minted.items w.first w.nodes c.skip.new.self w.log.steps c.args.client c.skip.ensures.kind c.self.invariant.0,
      subst StandApart (sym c.skip.ensures.skipped) (apart_skipped c.args.client c.args.number w.nodes c.self.invariant.1),
    )
