use Rattle.std.proofs.Common.{le_refl}
use Rattle.std.proofs.lemmas.Result.{on_ok_weaker, IfErr-weaker as err_weaker}
use Rattle.sqlite_store.specs.FileStore.{recovers, view}
use Rattle.osc_store.proofs.CauseLemmas.{excused}
use Rattle.osc_store.proofs.ViewLemmas.{clean_before}
use Rattle.osc_store.proofs.WholeLemmas.{marked_keeps, marked_leaves, sound_mid, sums_only, unwritten}
use Rattle.osc_store.proofs.marking.set_mark.Goals as goal

pub returns-in_err-write_mark-clause-crash : goal.returns-in_err-write_mark-clause-crash
returns-in_err-write_mark-clause-crash g c = λ tree keeps clean.
    let mid = c.write_mark.new.store in
    unwritten view recovers c.args.store.now mid mid tree keeps c.write_mark.ensures.quiet.outcomes (c.write_mark.ensures.schema clean)

pub returns-clause-kept : goal.returns-clause-kept
returns-clause-kept g c = λ tree keeps clean.
    let mid = c.write_mark.new.store in
    let new = c.commit.new.self in
    let early = clean_before (view mid) (view new) c.commit.ensures.clean clean in
    let w = c.in_ok-write_mark.ensures in
    on_ok_weaker c.commit.result (λ commits. marked_keeps view recovers c.args.store.now mid new tree keeps w.quiet.outcomes (w.frame early) (w.list early) (w.held tree keeps.holds early)
    c.commit.ensures.crash (commits clean)) c.commit.ensures.ok

pub returns-clause-crash : goal.returns-clause-crash
returns-clause-crash g c = λ tree keeps clean.
    let mid = c.write_mark.new.store in
    let new = c.commit.new.self in
    let early = clean_before (view mid) (view new) c.commit.ensures.clean clean in
    let w = c.in_ok-write_mark.ensures in
    marked_leaves view recovers c.args.store.now mid new tree keeps w.quiet.outcomes (w.frame early) (w.list early) (w.held tree keeps.holds early) c.commit.ensures.crash
    c.commit.result (on_ok_weaker c.commit.result (λ commits. commits clean) c.commit.ensures.ok) c.commit.ensures.err

pub returns-clause-cause : goal.returns-clause-cause
returns-clause-cause g c = λ tree keeps clean.
    let mid = c.write_mark.new.store in
    let new = c.commit.new.self in
    let early = clean_before (view mid) (view new) c.commit.ensures.clean clean in
    let w = c.in_ok-write_mark.ensures in
    let sound = sound_mid view recovers c.args.store.now mid new tree keeps w.quiet.outcomes (w.frame early) (w.list early) (w.held tree keeps.holds early) c.commit.ensures.crash in
    err_weaker c.commit.result _ _ (λ e. excused (view mid) _ _ _ _ _ _ e sound w.quiet.counts (le_refl _) (λ l. l)) (c.commit.ensures.cause clean)

pub returns-clause-sums : goal.returns-clause-sums
returns-clause-sums g c = on_ok_weaker c.commit.result (λ commits clean.
    let mid = c.write_mark.new.store in
    let early = clean_before (view mid) (view c.commit.new.self) c.commit.ensures.clean clean in
    sums_only (view c.args.store.now) (view mid) (view c.commit.new.self) (c.in_ok-write_mark.ensures.frame early) (commits clean)) c.commit.ensures.ok
