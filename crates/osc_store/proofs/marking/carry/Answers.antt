use Rattle.std.proofs.Common.{ap, le_refl, subst, ◌∙◌}
use Rattle.std.proofs.lemmas.Result.{on_ok_weaker, IfErr-weaker as err_weaker}
use Rattle.sqlite_trees.specs.View.{View}
use Rattle.sqlite_store.specs.FileStore.{recovers, view}
use Rattle.osc_store.specs.{Holds, ListsTable}
use Rattle.osc_store.proofs.CauseLemmas.{excused}
use Rattle.osc_store.proofs.ViewLemmas.{clean_before}
use Rattle.osc_store.proofs.WholeLemmas.{held_leaves, keeps_on, leaves_on, on_ok_two, whole_alone}
use Rattle.osc_store.proofs.marking.carry.Goals as goal

pub returns-clause-kept : goal.returns-clause-kept
returns-clause-kept g c = λ tree keeps clean.
    let mid = c.set_mark.new.store in
    let new = c.checkpoint.new.self in
    let e = c.checkpoint.ensures in
    let early = clean_before (view mid) (view new) e.quiet.clean clean in
    let before = c.in_ok-set_mark.ensures.kept tree keeps early in
    on_ok_weaker c.checkpoint.result (λ on. keeps_on view recovers mid new tree before e.quiet.outcomes (e.same (on clean))) e.open

pub returns-clause-crash : goal.returns-clause-crash
returns-clause-crash g c = λ tree keeps clean.
    let mid = c.set_mark.new.store in
    let new = c.checkpoint.new.self in
    let e = c.checkpoint.ensures in
    let early = clean_before (view mid) (view new) e.quiet.clean clean in
    leaves_on view recovers mid new tree (c.in_ok-set_mark.ensures.kept tree keeps early) e.quiet.outcomes e.same

pub returns-clause-whole : goal.returns-clause-whole
returns-clause-whole g c = λ tree keeps clean.
    let mid = c.set_mark.new.store in
    let new = c.checkpoint.new.self in
    let e = c.checkpoint.ensures in
    let early = clean_before (view mid) (view new) e.quiet.clean clean in
    let before = c.in_ok-set_mark.ensures.kept tree keeps early in
    on_ok_two c.checkpoint.result _ _ _ (λ opens moved.
    let on = opens clean in
    let kept = keeps_on view recovers mid new tree before e.quiet.outcomes (e.same on) in
    whole_alone new g.met.D.Disk.seen_may_stay tree clean on kept.ready.numbered (subst ListsTable kept.settled kept.lists) (subst (λ db. Holds db tree) kept.settled kept.holds)
    (moved c.in_ok-set_mark.ensures.logged)) e.open e.moved

pub returns-in_err-set_mark-clause-crash : goal.returns-in_err-set_mark-clause-crash
returns-in_err-set_mark-clause-crash g c = λ tree keeps clean. held_leaves view recovers c.set_mark.new.store tree tree (c.set_mark.ensures.crash tree keeps clean)

pub returns-clause-cause : goal.returns-clause-cause
returns-clause-cause g c = λ tree keeps clean.
    let mid = c.set_mark.new.store in
    let e = c.checkpoint.ensures in
    let early = clean_before (view mid) (view c.checkpoint.new.self) e.quiet.clean clean in
    let before = c.in_ok-set_mark.ensures.kept tree keeps early in
    err_weaker c.checkpoint.result _ _ (λ why. excused (view mid) _ _ _ _ _ _ why before.ready.sound c.set_mark.ensures.counts (le_refl _) (λ l. l)) (e.cause clean)

pub returns-clause-sums : goal.returns-clause-sums
returns-clause-sums g c =
    let mid = c.set_mark.new.store in
    let e = c.checkpoint.ensures in
    on_ok_weaker c.checkpoint.result (λ opens clean.
    let early = clean_before (view mid) (view c.checkpoint.new.self) e.quiet.clean clean in
    ap (λ (w : View). w.has_sums) (e.same (opens clean)) ∙ c.in_ok-set_mark.ensures.sums early) e.open
