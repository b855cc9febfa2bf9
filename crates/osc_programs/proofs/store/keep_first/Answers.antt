use Rattle.osc_programs.proofs.store.keep_first.Goals as goal

pub returns-in-Ok-clause-kept : goal.returns-in-Ok-clause-kept
returns-in-Ok-clause-kept g c = λ keeps.
    c.in-Ok.ensures.kept _ _ (c.in_ok-write_first.ensures.written _ (g.met.K.Keeping.writes_first _ _ keeps))
