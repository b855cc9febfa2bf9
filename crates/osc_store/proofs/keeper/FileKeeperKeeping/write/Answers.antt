use Rattle.std.proofs.Common.{option_copied, subst, sym, ◌≡◌, Bool, true}
use Rattle.std.proofs.lemmas.Result.{on_ok_weaker, IfErr-weaker as err_weaker}
use Rattle.sqlite_store.specs.FileStore.{faults, recovers, view}
use Rattle.osc_store.specs.{Writes, changed}
use Rattle.osc_store.specs.Keeping.{may_leave_held}
use Rattle.osc_store.proofs.CauseLemmas.{on_ok_if}
use Rattle.osc_store.proofs.ViewLemmas.{clean_before}
use Rattle.osc_store.proofs.WriteLemmas.{later_faults, passed_on, why_wider}
use Rattle.osc_store.proofs.keeper.FileKeeperKeeping.write.Goals as goal

pub returns-clause-written : goal.returns-clause-written
returns-clause-written g c kept written writes =
    let old = c.args.self.now in
    let mid = c.begin.new.self in
    let new = c.write_change.new.store in
    on_ok_if c.write_change.result _ _ (λ clean.
    let early = clean_before (view mid.store) (view new) c.write_change.ensures.clean clean in
    let first = clean_before (view old.store) (view mid.store) c.begin.ensures.clean early in
    let is : mid.pending ≡ true = c.in_ok-begin.ensures.pending in
    on_ok_weaker c.write_change.result (subst (λ (b : Bool). Writes view recovers new b kept (changed written c.args.path.now (option_copied c.args.resource))) (sym is))
    (c.write_change.ensures.written true kept written (c.in_ok-begin.ensures.kept kept written (writes first) early) clean))

pub returns-clause-crash : goal.returns-clause-crash
returns-clause-crash g c kept written writes clean =
    let old = c.args.self.now in
    let mid = c.begin.new.self in
    let new = c.write_change.new.store in
    let early = clean_before (view mid.store) (view new) c.write_change.ensures.clean clean in
    let first = clean_before (view old.store) (view mid.store) c.begin.ensures.clean early in
    may_leave_held view recovers new kept kept (c.write_change.ensures.crash true kept written (c.in_ok-begin.ensures.kept kept written (writes first) early) clean)

pub returns-clause-cause : goal.returns-clause-cause
returns-clause-cause g c kept written writes clean =
    let old = c.args.self.now in
    let mid = c.begin.new.self in
    let new = c.write_change.new.store in
    let early = clean_before (view mid.store) (view new) c.write_change.ensures.clean clean in
    let first = clean_before (view old.store) (view mid.store) c.begin.ensures.clean early in
    err_weaker c.write_change.result _ _ (λ e. why_wider _ _ _ _ e (later_faults (faults old.store) (faults mid.store) (faults new) c.begin.ensures.counts) (λ l. l))
    (c.write_change.ensures.cause true kept written (c.in_ok-begin.ensures.kept kept written (writes first) early) clean)

pub returns-in_err-begin-clause-crash : goal.returns-in_err-begin-clause-crash
returns-in_err-begin-clause-crash g c kept written writes clean =
    let old = c.args.self.now in
    let mid = c.begin.new.self in
    let first = clean_before (view old.store) (view mid.store) c.begin.ensures.clean clean in
    c.begin.ensures.crash kept written (writes first) clean

pub returns-in_err-begin-clause-cause : goal.returns-in_err-begin-clause-cause
returns-in_err-begin-clause-cause g c kept written writes clean =
    let old = c.args.self.now in
    let mid = c.begin.new.self in
    let first = clean_before (view old.store) (view mid.store) c.begin.ensures.clean clean in
    let why = c.in_err-begin.ensures.cause kept written (writes first) clean in
    passed_on c.from_residual.result c.in_err-begin.field-0.0 _ c.from_residual.ensures.1 (why_wider _ _ _ _ c.in_err-begin.field-0.0 (λ f. f) (λ never. absurd never) why)
