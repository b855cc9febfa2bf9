use Rattle.std.proofs.Common.{arith, inl, sym, subst}
use Rattle.sqlite_pool.specs.Stored.{used_size}
use Rattle.sqlite_wal.specs.PageSize.{bytes_of}
use Rattle.osc_store.specs.{FindsTree, IsStore, IsUnmade, Fits, IsOtherVersion, IsOver, image_of}
use Rattle.osc_store.proofs.FindLemmas.{fails_wider, more_faults, same_image, surely}
use Rattle.osc_store.proofs.FileLemmas.{both_read, leaves_read, only_read_then}
use Rattle.osc_store.proofs.starting.store_over.Goals as goal

pub take-requires-clause-fits : goal.take-requires-clause-fits
take-requires-clause-fits g c clean =
    let seen = same_image c.find.ensures.log c.find.ensures.db in
    subst (λ i. Fits i (used_size (bytes_of c.in-Ok-Some.size) c.in-Ok-Some.has_sums)) (sym seen) (rw c.in-Ok-Some.field-0-is at (c.in-Ok-Some.ensures.fits clean))

pub returns-in-Ok-clause-gives : goal.returns-in-Ok-clause-gives
returns-in-Ok-clause-gives g c clean =
    let new = c.find.new.files in
    let read = c.find.ensures in
    let seen = same_image read.log read.db in
    let it = c.in-Ok.ensures.gives clean in
    record {
      honest = both_read c.args.files new read.log read.db it.honest;
      over = subst (λ i. IsOver i c.in-Ok.store) seen it.over;
      counts = omega (arith, read.counts, it.counts);
      goes_on = λ tree found leaves. it.goes_on tree (subst (λ i. FindsTree i tree) (sym seen) found) (leaves_read c.args.files new read.log read.db tree leaves);
    }

pub returns-in-Ok-take-clause-gives : goal.returns-in-Ok-take-clause-gives
returns-in-Ok-take-clause-gives g c clean =
    let new = c.find.new.files in
    let read = c.find.ensures in
    let seen = same_image read.log read.db in
    let it = c.in-Ok-take.ensures.gives clean in
    record {
      honest = both_read c.args.files new read.log read.db it.honest;
      over = subst (λ i. IsOver i c.in-Ok-take.store) seen it.over;
      counts = omega (arith, read.counts, it.counts);
      goes_on = λ tree found leaves. it.goes_on tree (subst (λ i. FindsTree i tree) (sym seen) found) (leaves_read c.args.files new read.log read.db tree leaves);
    }

pub returns-in-Err-make-clause-spares : goal.returns-in-Err-make-clause-spares
returns-in-Err-make-clause-spares g c clean =
    let new = c.find.new.files in
    let read = c.find.ensures in
    let seen = same_image read.log read.db in
    let it = c.in-Err-make.ensures.spares clean in
    let unmade : IsUnmade (image_of g.D.Disk new) = subst IsUnmade (sym seen) ∣ inl (c.in-Ok-None.ensures.blank it.honest c.in-Ok-None.field-0-is) ∣₁ in
    record {
      honest = both_read c.args.files new read.log read.db it.honest;
      counts = omega (arith, read.counts, it.counts);
      cause = fails_wider _ _ _ _ _ _ _ _ c.in-Err-make.error (more_faults _ _ _ _ read.counts (omega arith)) (λ l. l) (λ store. surely unmade) (λ o. absurd o) it.cause;
      goes_on = λ _ tree found leaves. it.goes_on unmade tree (subst (λ i. FindsTree i tree) (sym seen) found) (leaves_read c.args.files new read.log read.db tree leaves);
    }

pub returns-in-Err-take-clause-spares : goal.returns-in-Err-take-clause-spares
returns-in-Err-take-clause-spares g c clean =
    let new = c.find.new.files in
    let read = c.find.ensures in
    let seen = same_image read.log read.db in
    let it = c.in-Err-take.ensures.spares clean in
    record {
      honest = both_read c.args.files new read.log read.db it.honest;
      counts = omega (arith, read.counts, it.counts);
      cause = fails_wider _ _ _ _ _ _ _ _ c.in-Err-take.error (more_faults _ _ _ _ read.counts (omega arith)) (λ l. l) (λ store. surely (subst IsStore (sym seen) store)) (subst IsOtherVersion seen) it.cause;
      goes_on = λ _ tree found leaves. it.goes_on tt tree (subst (λ i. FindsTree i tree) (sym seen) found) (leaves_read c.args.files new read.log read.db tree leaves);
    }

pub returns-in-Err-take-clause-read : goal.returns-in-Err-take-clause-read
returns-in-Err-take-clause-read g c none = only_read_then c.args.files c.find.new.files c.find.ensures.log c.find.ensures.db _ (c.in-Err-take.ensures.read none)
