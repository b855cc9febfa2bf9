use Rattle.std.proofs.Common.{arith}
use Rattle.sqlite_store.specs.FileStore.{recovers, view}
use Rattle.osc_programs.proofs.Openings.{opened_on}
use Rattle.osc_programs.proofs.store.whole_store.Goals as goal

pub returns-in-Ok-make_whole-clause-opened : goal.returns-in-Ok-make_whole-clause-opened
returns-in-Ok-make_whole-clause-opened g c =
    opened_on view recovers _ c.in-Ok.opened.0.store c.make_whole.new.self.store c.in-Ok.opened.1 c.in-Ok.ensures.opened c.make_whole.ensures.clean c.in-Ok-make_whole.ensures.kept

pub returns-in-Ok-make_whole-clause-whole : goal.returns-in-Ok-make_whole-clause-whole
returns-in-Ok-make_whole-clause-whole g c = λ clean.
    let falls = c.make_whole.ensures.clean in
    c.in-Ok-make_whole.ensures.whole c.in-Ok.opened.1 (c.in-Ok.ensures.opened.kept (omega (arith, falls, clean))) clean
