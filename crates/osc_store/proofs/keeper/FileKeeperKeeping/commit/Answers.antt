use Rattle.std.proofs.Common.{subst, Bool}
use Rattle.sqlite_store.specs.FileStore.{recovers, view}
use Rattle.osc_store.specs.{Writes}
use Rattle.osc_store.specs.Keeping.{may_leave_either, may_leave_held, may_leave_kept}
use Rattle.osc_store.proofs.ViewLemmas.{clean_before}
use Rattle.osc_store.proofs.WriteLemmas.{keeps_written, passed_on}
use Rattle.osc_store.proofs.keeper.FileKeeperKeeping.commit.Goals as goal

pub returns-then-not-self-clause-kept : goal.returns-then-not-self-clause-kept
returns-then-not-self-clause-kept g c kept written writes clean =
    let it = c.args.self.now in
    keeps_written view recovers it.store kept written (subst (λ (b : Bool). Writes view recovers it.store b kept written) c.if-not-self.true (writes clean))

pub returns-then-not-self-clause-crash : goal.returns-then-not-self-clause-crash
returns-then-not-self-clause-crash g c kept written writes clean =
    let it = c.args.self.now in
    may_leave_either view recovers it.store kept written (may_leave_kept view recovers it.store it.pending kept written (writes clean))

pub returns-in_err-commit_marked-clause-crash : goal.returns-in_err-commit_marked-clause-crash
returns-in_err-commit_marked-clause-crash g c kept written writes clean =
    let it = c.args.self.now in
    let new = c.commit_marked.new.store in
    let early = clean_before (view it.store) (view new) c.commit_marked.ensures.clean clean in
    may_leave_held view recovers new kept written (c.commit_marked.ensures.crash it.pending kept written (writes early) clean)

pub returns-in_err-commit_marked-clause-cause : goal.returns-in_err-commit_marked-clause-cause
returns-in_err-commit_marked-clause-cause g c kept written writes clean =
    let it = c.args.self.now in
    let new = c.commit_marked.new.store in
    let early = clean_before (view it.store) (view new) c.commit_marked.ensures.clean clean in
    let why = c.in_err-commit_marked.ensures.cause it.pending kept written (writes early) clean in
    passed_on c.from_residual.result c.in_err-commit_marked.field-0.0 _ c.from_residual.ensures.1 why

pub returns-clause-kept : goal.returns-clause-kept
returns-clause-kept g c kept written writes clean =
    let it = c.args.self.now in
    let new = c.commit_marked.new.store in
    let early = clean_before (view it.store) (view new) c.commit_marked.ensures.clean clean in
    c.in_ok-commit_marked.ensures.kept it.pending kept written (writes early) clean

pub returns-clause-crash : goal.returns-clause-crash
returns-clause-crash g c kept written writes clean =
    let it = c.args.self.now in
    let new = c.commit_marked.new.store in
    let early = clean_before (view it.store) (view new) c.commit_marked.ensures.clean clean in
    may_leave_held view recovers new kept written (c.commit_marked.ensures.crash it.pending kept written (writes early) clean)
