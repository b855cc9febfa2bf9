use Rattle.std.proofs.Common.{le_refl}
use Rattle.std.proofs.lemmas.Result.{on_ok_weaker, IfErr-weaker as err_weaker}
use Rattle.osc_store.proofs.CauseLemmas.{excused, too_long}
use Rattle.osc_store.proofs.ViewLemmas.{row_added}
use Rattle.osc_store.proofs.keeping.add.Goals as goal

pub returns-clause-added : goal.returns-clause-added
returns-clause-added g c = λ tree holds clean.
    let order = c.paths_are_ordered.ensures in
    on_ok_weaker c.insert.result (λ sets. row_added order.total order.exact (g.S.Store.view c.args.store.now) (g.S.Store.view c.insert.new.self) tree c.args.path.now c.args.resource.now
    c.write_row.new.row c.requires c.in_ok-write_row.ensures holds (sets clean)) c.insert.ensures.ok

pub returns-clause-cause : goal.returns-clause-cause
returns-clause-cause g c = λ sound clean.
    err_weaker c.insert.result _ _ (λ e. excused (g.S.Store.view c.args.store.now) _ _ _ _ _ _ e sound (le_refl _) (le_refl _)
    (too_long c.args.path.now c.args.resource.now c.write_row.new.row _ c.requires.1 c.in_ok-write_row.ensures)) (c.insert.ensures.cause clean)
