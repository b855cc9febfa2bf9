use Rattle.std.proofs.Common.{arith, inl, inr, sym, subst}
use Rattle.osc_store.specs.{FindsTree, IsOtherVersion, IsStore, IsUnmade}
use Rattle.osc_store.proofs.BelongLemmas.{no_refusal}
use Rattle.osc_store.proofs.FindLemmas.{fails_wider, more_faults, same_image, surely}
use Rattle.osc_store.proofs.FileLemmas.{both_read, leaves_read, only_read_then}
use Rattle.osc_store.proofs.files.open_checked.Goals as goal

pub returns-in-Ok-open_over-clause-found : goal.returns-in-Ok-open_over-clause-found
returns-in-Ok-open_over-clause-found g c clean =
    let read = c.check_pair.ensures in
    subst (λ i. FindsTree i c.in-Ok-open_over.opened.1) (same_image read.log read.db) (c.in-Ok-open_over.ensures.found clean)

pub returns-in-Ok-open_over-clause-sums : goal.returns-in-Ok-open_over-clause-sums
returns-in-Ok-open_over-clause-sums g c clean unmade =
    let read = c.check_pair.ensures in
    c.in-Ok-open_over.ensures.sums clean (subst IsUnmade (sym (same_image read.log read.db)) unmade)

pub returns-in-Ok-open_over-clause-belong : goal.returns-in-Ok-open_over-clause-belong
returns-in-Ok-open_over-clause-belong g c clean = c.in-Ok.ensures.ok (c.in-Ok-open_over.ensures.honest clean)

pub returns-in-Err-open_over-clause-stops : goal.returns-in-Err-open_over-clause-stops
returns-in-Err-open_over-clause-stops g c clean =
    let new = c.check_pair.new.files in
    let read = c.check_pair.ensures in
    let seen = same_image read.log read.db in
    let it = c.in-Err-open_over.ensures.spares clean in
    record {
      honest = both_read c.args.files new read.log read.db it.honest;
      counts = omega (arith, read.counts, it.counts);
      cause = inl (fails_wider _ _ _ _ _ _ _ _ c.in-Err-open_over.error (more_faults _ _ _ _ read.counts (omega arith)) (λ l. l) (λ store. surely (subst IsStore (sym seen) store)) (subst IsOtherVersion seen) it.cause);
      goes_on = λ tree found leaves. it.goes_on tt tree (subst (λ i. FindsTree i tree) (sym seen) found) (leaves_read c.args.files new read.log read.db tree leaves);
    }

pub returns-in-Err-open_over-clause-read : goal.returns-in-Err-open_over-clause-read
returns-in-Err-open_over-clause-read g c none = only_read_then c.args.files c.check_pair.new.files c.check_pair.ensures.log c.check_pair.ensures.db _ (c.in-Err-open_over.ensures.read none)

pub returns-in-Err-open_over-clause-left_alone : goal.returns-in-Err-open_over-clause-left_alone
returns-in-Err-open_over-clause-left_alone g c clean refusal = no_refusal _ _ _ _ c.in-Err-open_over.error refusal (c.in-Err-open_over.ensures.spares clean).cause

pub returns-in-Err-clause-stops : goal.returns-in-Err-clause-stops
returns-in-Err-clause-stops g c clean =
    let new = c.check_pair.new.files in
    let read = c.check_pair.ensures in
    record {
      honest = both_read c.args.files new read.log read.db clean;
      counts = read.counts;
      cause = elim (c.in-Err.ensures.cause clean) [
        | inl why ↦ inl (fails_wider _ _ _ _ _ _ _ _ c.in-Err.error (λ f. f) (λ l. l) (λ _. surely tt) (λ o. absurd o) why)
        | inr why ↦ inr why
      ];
      goes_on = λ tree found leaves. leaves_read c.args.files new read.log read.db tree leaves;
    }

pub returns-in-Ok-open_over-clause-honest : goal.returns-in-Ok-open_over-clause-honest
returns-in-Ok-open_over-clause-honest g c clean = both_read c.args.files c.check_pair.new.files c.check_pair.ensures.log c.check_pair.ensures.db (c.in-Ok-open_over.ensures.honest clean)
