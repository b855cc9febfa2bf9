use Rattle.std.proofs.Common.{◌≡◌, ap, ◌∙◌}
use Rattle.std.proofs.lemmas.Result.{on_ok_weaker, IfErr-weaker as err_weaker}
use Rattle.sqlite_trees.specs.Objects.{version_tree}
use Rattle.sqlite_trees.specs.Tree.{Trees}
use Rattle.osc_store.proofs.ViewLemmas.{clean_before}
use Rattle.osc_store.proofs.WriteLemmas.{later_faults, why_wider, wrote}
use Rattle.osc_store.proofs.marking.commit_marked.Goals as goal

pub returns-in-Ok-clause-marked : goal.returns-in-Ok-clause-marked
returns-in-Ok-clause-marked g c =
    let v = g.S.Store.view in
    let mid = c.write_mark.new.store in
    let new = c.commit_changes.new.store in
    on_ok_weaker c.commit_changes.result (λ all clean.
    let early = clean_before (v mid) (v new) c.commit_changes.ensures.clean clean in
    ap (λ (t : Trees). t version_tree) (all clean) ∙ c.in-Ok.ensures.marked early) c.commit_changes.ensures.all

pub returns-in-Ok-clause-kept : goal.returns-in-Ok-clause-kept
returns-in-Ok-clause-kept g c pending kept written writes clean =
    let v = g.S.Store.view in
    let mid = c.write_mark.new.store in
    let new = c.commit_changes.new.store in
    let early = clean_before (v mid) (v new) c.commit_changes.ensures.clean clean in
    let w = c.in-Ok.ensures in
    c.commit_changes.ensures.kept _ kept written
    (wrote v g.S.Store.recovers c.args.store.now mid pending kept written writes written w.quiet.outcomes (w.frame early) (w.list early) (w.held written writes.holds early)) clean

pub returns-in-Ok-clause-crash : goal.returns-in-Ok-clause-crash
returns-in-Ok-clause-crash g c pending kept written writes clean =
    let v = g.S.Store.view in
    let mid = c.write_mark.new.store in
    let new = c.commit_changes.new.store in
    let early = clean_before (v mid) (v new) c.commit_changes.ensures.clean clean in
    let w = c.in-Ok.ensures in
    c.commit_changes.ensures.crash _ kept written
    (wrote v g.S.Store.recovers c.args.store.now mid pending kept written writes written w.quiet.outcomes (w.frame early) (w.list early) (w.held written writes.holds early)) clean

pub returns-in-Ok-clause-cause : goal.returns-in-Ok-clause-cause
returns-in-Ok-clause-cause g c pending kept written writes clean =
    let v = g.S.Store.view in
    let f = g.S.Store.faults in
    let mid = c.write_mark.new.store in
    let new = c.commit_changes.new.store in
    let early = clean_before (v mid) (v new) c.commit_changes.ensures.clean clean in
    let w = c.in-Ok.ensures in
    err_weaker c.commit_changes.result _ _ (λ e. why_wider _ _ _ _ e (later_faults (f c.args.store.now) (f mid) (f new) w.quiet.counts) (λ l. l))
    (c.commit_changes.ensures.cause _ kept written
    (wrote v g.S.Store.recovers c.args.store.now mid pending kept written writes written w.quiet.outcomes (w.frame early) (w.list early) (w.held written writes.holds early)) clean)
