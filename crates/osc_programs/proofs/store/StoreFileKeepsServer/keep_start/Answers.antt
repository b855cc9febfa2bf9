-- The change is written, and then committed. Where writing it fails, what was kept still is.
use Rattle.std.proofs.Common.{OnOk, arith, subst, sym}
use Rattle.std.proofs.lemmas.Result.{IfErr-weaker}
use Rattle.sqlite_store.specs.FileStore.{faults, recovers, view}
use Rattle.sqlite_trees.specs.View.{IsClean}
use Rattle.osc_model.specs.Tree.{Tree}
use Rattle.osc_store.specs.{Keeps, MayLeave}
use Rattle.osc_store.specs.Keeping.{keeps_writes, may_leave_either}
use Rattle.osc_programs.proofs.Lasting.{why_since}
use Rattle.osc_programs.proofs.Placed.{long_in}
use Rattle.osc_programs.proofs.store.StoreFileKeepsServer.keep_start.Goals as goal

pub returns-in-Ok-clause-kept : goal.returns-in-Ok-clause-kept
returns-in-Ok-clause-kept g c before after same keeps =
    let old = c.args.self.now.keeper in
    let new = c.commit.new.self in
    subst (λ (tree : Tree). OnOk c.commit.result (IsClean (view new.store) → Keeps view recovers new.store tree)) (sym same)
    (c.commit.ensures.kept before.tree _ (c.in-Ok.ensures.written before.tree before.tree (λ clean. keeps_writes view recovers old.store old.pending before.tree (keeps clean))))

pub returns-in-Ok-clause-crash : goal.returns-in-Ok-clause-crash
returns-in-Ok-clause-crash g c before after same keeps =
    let old = c.args.self.now.keeper in
    let new = c.commit.new.self in
    subst (λ (tree : Tree). IsClean (view new.store) → MayLeave view recovers new.store before.tree tree) (sym same)
    (c.commit.ensures.crash before.tree _ (c.in-Ok.ensures.written before.tree before.tree (λ clean. keeps_writes view recovers old.store old.pending before.tree (keeps clean))))

pub returns-in-Ok-clause-cause : goal.returns-in-Ok-clause-cause
returns-in-Ok-clause-cause g c before after same keeps trust =
    let old = c.args.self.now.keeper in
    IfErr-weaker c.commit.result _ _ (λ error why. why_since _ _ _ _ _ error c.write.ensures.counts (λ long. absurd long) why)
    (c.commit.ensures.cause before.tree _
    (c.in-Ok.ensures.written before.tree before.tree (λ clean. keeps_writes view recovers old.store old.pending before.tree (keeps clean))) trust)

pub returns-in-Ok-clause-counts : goal.returns-in-Ok-clause-counts
returns-in-Ok-clause-counts g c = omega (arith, c.write.ensures.counts, c.commit.ensures.counts)

pub returns-in-Ok-clause-trust : goal.returns-in-Ok-clause-trust
returns-in-Ok-clause-trust g c trust = c.write.ensures.trust (c.commit.ensures.trust trust)

pub returns-in-Err-clause-crash : goal.returns-in-Err-clause-crash
returns-in-Err-clause-crash g c before after same keeps clean =
    let old = c.args.self.now.keeper in
    may_leave_either view recovers c.write.new.self.store before.tree after.tree
    (c.write.ensures.crash before.tree before.tree (λ clean. keeps_writes view recovers old.store old.pending before.tree (keeps clean)) clean)

pub returns-in-Err-clause-cause : goal.returns-in-Err-clause-cause
returns-in-Err-clause-cause g c before after same keeps trust =
    let old = c.args.self.now.keeper in
    why_since _ _ (faults old.store) (faults old.store) _ _ (omega arith) (long_in c.paths_are_ordered.ensures.total before.tree after.tree c.args.path.now _ same)
    (c.in-Err.ensures.cause before.tree before.tree (λ clean. keeps_writes view recovers old.store old.pending before.tree (keeps clean)) trust)
