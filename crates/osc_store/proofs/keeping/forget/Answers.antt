use Rattle.std.proofs.Common.{subst}
use Rattle.std.proofs.lemmas.Result.{on_ok_weaker}
use Rattle.osc_store.specs.Inner.Writing.{Finds}
use Rattle.osc_store.proofs.ViewLemmas.{clean_before, row_forgotten, row_missed}
use Rattle.osc_store.proofs.keeping.forget.Goals as goal

pub returns-then-branch-clause-gone : goal.returns-then-branch-clause-gone
returns-then-branch-clause-gone g c = λ tree holds clean.
    let order = c.paths_are_ordered.ensures in
    let v = g.S.Store.view in
    let before = clean_before (v c.find.new.store) (v c.remove.new.self) c.remove.ensures.quiet.clean clean in
    on_ok_weaker c.remove.result (λ sets. row_forgotten order.total order.exact (v c.args.store.now) (v c.find.new.store) (v c.remove.new.self) tree c.args.path.now c.find.new.row
    c.requires (c.in_ok-find.ensures.same before) holds
    (subst (Finds tree c.args.path.now c.find.new.row) c.if-branch.true (c.in_ok-find.ensures.found tree holds before)) (sets clean)) c.remove.ensures.ok

pub returns-else-branch-clause-gone : goal.returns-else-branch-clause-gone
returns-else-branch-clause-gone g c = λ tree holds clean.
    let order = c.paths_are_ordered-else-branch.ensures in
    let v = g.S.Store.view in
    row_missed order.total order.exact (v c.args.store.now) (v c.find.new.store) tree c.args.path.now c.find.new.row
    (c.in_ok-find.ensures.same clean) holds
    (subst (Finds tree c.args.path.now c.find.new.row) c.if-branch.false (c.in_ok-find.ensures.found tree holds clean))
