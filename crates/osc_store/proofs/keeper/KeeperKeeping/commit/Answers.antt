use Rattle.osc_store.proofs.ViewLemmas.{clean_before}
use Rattle.osc_store.proofs.WriteLemmas.{passed_on}
use Rattle.osc_store.proofs.keeper.KeeperKeeping.commit.Goals as goal

pub returns-in_err-commit_changes-clause-crash : goal.returns-in_err-commit_changes-clause-crash
returns-in_err-commit_changes-clause-crash g c kept written writes clean =
    let v = g.S.Store.view in
    c.commit_changes.ensures.crash c.args.self.now.pending kept written (writes (clean_before (v c.args.self.now.store) (v c.commit_changes.new.store) c.commit_changes.ensures.clean clean)) clean

pub returns-in_err-commit_changes-clause-cause : goal.returns-in_err-commit_changes-clause-cause
returns-in_err-commit_changes-clause-cause g c kept written writes clean =
    let v = g.S.Store.view in
    let why = c.in_err-commit_changes.ensures.cause c.args.self.now.pending kept written (writes (clean_before (v c.args.self.now.store) (v c.commit_changes.new.store) c.commit_changes.ensures.clean clean)) clean in
    passed_on c.from_residual.result c.in_err-commit_changes.field-0.0 _ c.from_residual.ensures.1 why

pub returns-clause-kept : goal.returns-clause-kept
returns-clause-kept g c kept written writes clean =
    let v = g.S.Store.view in
    c.in_ok-commit_changes.ensures.kept c.args.self.now.pending kept written (writes (clean_before (v c.args.self.now.store) (v c.commit_changes.new.store) c.commit_changes.ensures.clean clean)) clean

pub returns-clause-crash : goal.returns-clause-crash
returns-clause-crash g c kept written writes clean =
    let v = g.S.Store.view in
    c.commit_changes.ensures.crash c.args.self.now.pending kept written (writes (clean_before (v c.args.self.now.store) (v c.commit_changes.new.store) c.commit_changes.ensures.clean clean)) clean
