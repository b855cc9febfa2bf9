use Rattle.std.specs.Prelude.{nat_eq}
use Rattle.std.specs.HashSet.{contains}
use Rattle.std.specs.Cmp.Lexicographic.{pointwise}
use Rattle.osc_run.proofs.Draws.{new_if_absent, one_more}
use Rattle.osc_run.proofs.premise.add_drawn.Goals as goal

pub returns-in-Ok-clause-fresh : goal.returns-in-Ok-clause-fresh
returns-in-Ok-clause-fresh c =
    new_if_absent (contains (pointwise nat_eq) c.args.drawn.now) c.args.nonce c.in-Some.nonce c.in-Ok.added c.in-Some.is c.in-Ok.ensures.added

pub returns-in-Ok-clause-added : goal.returns-in-Ok-clause-added
returns-in-Ok-clause-added c =
    one_more (contains (pointwise nat_eq) c.args.drawn.now) (contains (pointwise nat_eq) c.insert.new.self) c.args.nonce c.in-Some.nonce c.in-Some.is c.in-Ok.ensures.updates.0
