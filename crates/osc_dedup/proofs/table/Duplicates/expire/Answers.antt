use Rattle.std.proofs.Common.{◌≤◌, None, drop, length, ap, sym, ◌∙◌, arith}
use Rattle.osc_dedup.specs.{alive, stays}
use Rattle.osc_dedup.proofs.Keys.{few_left, alive_keys}
use Rattle.osc_dedup.proofs.Places.{moved_behind, all_alive}
use Rattle.osc_dedup.proofs.table.Duplicates.expire.Goals as goal
use Rattle.std.proofs.lemmas.List.{length-drop}

pub invariant_of-self : goal.invariant_of-self
invariant_of-self c =
    let few = few_left (stays c.args.now None) c.self.inside.kept.entries c.renew-self-inside.new.kept.entries 64 c.renew-self-inside.ensures.moved in (
      omega arith,
      few,
      omega (arith, few),
      omega (arith, c.renew-self-inside.ensures.kept_room, c.self.invariant.5),
      c.renew-self-inside.ensures.emptied,
      omega (arith, c.renew-self-inside.ensures.other_room, c.self.invariant.3),
      c.renew-self-inside.ensures.distinct,
      tt,
      c.renew-self-inside.ensures.live,
    )

pub returns-then-self-now : goal.returns-then-self-now
returns-then-self-now c =
    let es = c.self.inside.kept.entries in
    let moved = moved_behind c.args.now None 64 c.self.inside.gone es c.renew-self-inside.new.kept.entries c.self.invariant.7 c.renew-self-inside.ensures.moved in
    let few : length (drop c.self.inside.gone es) ≤ 64 = omega (arith, length-drop c.self.inside.gone es, c.self.invariant.1) in
    alive_keys c.args.now (drop c.self.inside.gone es) c.renew-self-inside.new.kept.entries few moved
    ∙ ap (alive c.args.now) c.self.view_is

pub returns-else-self-now : goal.returns-else-self-now
returns-else-self-now c =
    let es = drop c.self.inside.gone c.self.inside.kept.entries in
    let same = all_alive c.self.inside.live_until c.args.now es (omega (arith, c.if-self-now.false)) c.self.invariant.8 in
    sym (ap (alive c.args.now) (sym c.self.view_is) ∙ same ∙ c.self.view_is)
