use Rattle.osc_store.proofs.CauseLemmas.{on_ok_if}
use Rattle.osc_store.proofs.ViewLemmas.{clean_before}
use Rattle.osc_store.proofs.keeper.KeeperKeeping.write.Goals as goal

pub returns-clause-written : goal.returns-clause-written
returns-clause-written g c kept written writes =
    let v = g.S.Store.view in
    on_ok_if c.write_change.result _ _ (λ clean. c.write_change.ensures.written c.args.self.now.pending kept written
    (writes (clean_before (v c.args.self.now.store) (v c.write_change.new.store) c.write_change.ensures.clean clean)) clean)

pub returns-clause-crash : goal.returns-clause-crash
returns-clause-crash g c kept written writes clean =
    let v = g.S.Store.view in
    c.write_change.ensures.crash c.args.self.now.pending kept written (writes (clean_before (v c.args.self.now.store) (v c.write_change.new.store) c.write_change.ensures.clean clean)) clean

pub returns-clause-cause : goal.returns-clause-cause
returns-clause-cause g c kept written writes clean =
    let v = g.S.Store.view in
    c.write_change.ensures.cause c.args.self.now.pending kept written (writes (clean_before (v c.args.self.now.store) (v c.write_change.new.store) c.write_change.ensures.clean clean)) clean
