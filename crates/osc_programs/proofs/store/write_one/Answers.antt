use Rattle.std.proofs.Common.{subst}
use Rattle.osc_programs.proofs.FirstTree.{put_there}
use Rattle.osc_programs.proofs.store.write_one.Goals as goal

pub returns-in-Ok-clause-written : goal.returns-in-Ok-clause-written
returns-in-Ok-clause-written g c = λ kept writes.
    subst (g.K.Keeping.writes c.write.new.self kept)
    (put_there c.paths_are_ordered.ensures.total c.args.tree.now _ c.args.setting.now.path _ _ c.in_ok-add_resource.ensures.added c.get.ensures.found)
    (c.in-Ok.ensures.written kept _ writes)
