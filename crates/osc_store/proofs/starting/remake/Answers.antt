use Rattle.std.proofs.Common.{arith, inl, inr, sym, subst}
use Rattle.std.proofs.Math.Logic.{∥∥₁_map}
use Rattle.std.proofs.lemmas.Bool.{iff_false}
use Rattle.sqlite_pool.specs.Opening.{IsBlankFile}
use Rattle.osc_store.specs.{FindsTree, IsEmpty, IsUnmade, page, IsOver, IsTooLong, image_of}
use Rattle.osc_store.proofs.FindLemmas.{empty_is_something, fails_wider, more_faults, same_image, surely}
use Rattle.osc_store.proofs.FileLemmas.{both_read, leaves_read}
use Rattle.osc_store.proofs.starting.remake.Goals as goal

pub returns-in-Ok-true-clause-spares : goal.returns-in-Ok-true-clause-spares
returns-in-Ok-true-clause-spares g c clean =
    let read = c.is_blank.ensures in
    let new = c.is_blank.new.files in
    record {
      honest = both_read c.args.files new read.log read.db clean;
      counts = read.counts;
      cause = λ empty. empty_is_something _ empty ((c.in-Ok-true.ensures.ok clean).0 c.in-Ok-true.field-0-test);
      goes_on = λ empty tree found leaves. leaves_read c.args.files new read.log read.db tree leaves;
    }

pub returns-in-Err-clause-spares : goal.returns-in-Err-clause-spares
returns-in-Err-clause-spares g c clean =
    let read = c.is_blank.ensures in
    let new = c.is_blank.new.files in
    record {
      honest = both_read c.args.files new read.log read.db clean;
      counts = read.counts;
      cause = fails_wider _ _ _ _ _ _ _ _ c.in-Err.error (λ f. f) (subst IsTooLong (sym (same_image read.log read.db))) (λ w. surely tt) (λ o. o) (c.in-Err.ensures.cause clean);
      goes_on = λ empty tree found leaves. leaves_read c.args.files new read.log read.db tree leaves;
    }

pub returns-in-Ok-clause-gives : goal.returns-in-Ok-clause-gives
returns-in-Ok-clause-gives g c clean =
    let read = c.is_blank.ensures in
    let new = c.is_blank.new.files in
    let seen = same_image read.log read.db in
    let it = c.in-Ok.ensures.gives clean in
    record {
      honest = both_read c.args.files new read.log read.db it.honest;
      over = subst (λ i. IsOver i c.in-Ok.store) seen it.over;
      counts = omega (arith, read.counts, it.counts);
      goes_on = λ tree found leaves. it.goes_on tree (subst (λ i. FindsTree i tree) (sym seen) found) (leaves_read c.args.files new read.log read.db tree leaves);
    }

pub returns-in-Ok-clause-started : goal.returns-in-Ok-clause-started
returns-in-Ok-clause-started g c clean =
    let read = c.is_blank.ensures in
    let seen = same_image read.log read.db in
    let made = c.in-Ok.ensures.started clean in
    let honest = (c.in-Ok.ensures.gives clean).honest in
    let some : ¬ IsBlankFile page (image_of g.D.Disk c.args.files) = iff_false (c.in-Ok-false.ensures.ok honest) c.in-Ok-false.field-0-test in
    (∥∥₁_map (subst IsUnmade seen made.0) (elim [ inl blank ↦ absurd (some blank) | inr empty ↦ empty ]), made.1)

pub returns-in-Err-make-clause-spares : goal.returns-in-Err-make-clause-spares
returns-in-Err-make-clause-spares g c clean =
    let read = c.is_blank.ensures in
    let new = c.is_blank.new.files in
    let seen = same_image read.log read.db in
    let it = c.in-Err-make.ensures.spares clean in
    let unmade = λ (empty : IsEmpty (image_of g.D.Disk c.args.files)). let h : IsUnmade (image_of g.D.Disk new) = ∣ inr (subst IsEmpty (sym seen) empty) ∣₁ in h in
    record {
      honest = both_read c.args.files new read.log read.db it.honest;
      counts = omega (arith, read.counts, it.counts);
      cause = fails_wider _ _ _ _ _ _ _ _ c.in-Err-make.error (more_faults _ _ _ _ read.counts (omega arith)) (λ l. l) (λ empty. surely (unmade empty)) (λ o. o) it.cause;
      goes_on = λ empty tree found leaves. it.goes_on (unmade empty) tree (subst (λ i. FindsTree i tree) (sym seen) found) (leaves_read c.args.files new read.log read.db tree leaves);
    }
