use Rattle.std.proofs.Common.{false, subst, ◌≡◌, Bool, true}
use Rattle.sqlite_store.specs.FileStore.{recovers, view}
use Rattle.osc_model.specs.Tree.{Tree}
use Rattle.osc_store.specs.{MayLeave, Writes}
use Rattle.osc_store.specs.Keeping.{keeps_writes, may_leave_kept}
use Rattle.osc_store.proofs.ViewLemmas.{clean_before}
use Rattle.osc_store.proofs.WriteLemmas.{keeps_written, passed_on}
use Rattle.osc_store.proofs.keeper.FileKeeper.begin.Goals as goal

pub returns-then-self-clause-kept : goal.returns-then-self-clause-kept
returns-then-self-clause-kept g c kept written writes clean =
    let it = c.args.self.now in
    let is : it.pending ≡ true = c.if-self.true in
    subst (λ (b : Bool). Writes view recovers it.store b kept written) is writes

pub returns-then-self-clause-crash : goal.returns-then-self-clause-crash
returns-then-self-clause-crash g c kept written writes clean =
    let it = c.args.self.now in
    may_leave_kept view recovers it.store it.pending kept written writes

pub returns-clause-kept : goal.returns-clause-kept
returns-clause-kept g c kept written writes clean =
    let it = c.args.self.now in
    let new = c.mark_file.new.self.store in
    let none : it.pending ≡ false = c.if-self.false in
    let free = subst (λ (b : Bool). Writes view recovers it.store b kept written) none writes in
    let same : written ≡ kept = (writes.settled none).1 in
    let now = keeps_writes view recovers new true written (c.in_ok-mark_file.ensures.kept written (keeps_written view recovers it.store kept written free) clean) in
    subst (λ (t : Tree). Writes view recovers new true t written) same now

pub returns-clause-crash : goal.returns-clause-crash
returns-clause-crash g c kept written writes clean =
    may_leave_kept view recovers c.mark_file.new.self.store true kept written (returns-clause-kept g c kept written writes clean)

pub returns-in_err-mark_file-clause-crash : goal.returns-in_err-mark_file-clause-crash
returns-in_err-mark_file-clause-crash g c kept written writes clean =
    let it = c.args.self.now in
    let new = c.mark_file.new.self.store in
    let none : it.pending ≡ false = c.if-self.false in
    let free = subst (λ (b : Bool). Writes view recovers it.store b kept written) none writes in
    let same : written ≡ kept = (writes.settled none).1 in
    subst (λ (t : Tree). MayLeave view recovers new t t) same (c.mark_file.ensures.crash written (keeps_written view recovers it.store kept written free) clean)

pub returns-in_err-mark_file-clause-cause : goal.returns-in_err-mark_file-clause-cause
returns-in_err-mark_file-clause-cause g c kept written writes clean =
    let it = c.args.self.now in
    let none : it.pending ≡ false = c.if-self.false in
    let free = subst (λ (b : Bool). Writes view recovers it.store b kept written) none writes in
    let why = c.in_err-mark_file.ensures.cause written (keeps_written view recovers it.store kept written free) clean in
    passed_on c.from_residual.result c.in_err-mark_file.field-0.0 _ c.from_residual.ensures.1 why
