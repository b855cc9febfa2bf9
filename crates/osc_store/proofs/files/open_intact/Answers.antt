use Rattle.std.proofs.Common.{arith, inl, inr, sym, subst}
use Rattle.osc_store.specs.{BelongTogether, FindsTree, IsOtherVersion, IsStore, IsUnmade, RefusesPair}
use Rattle.osc_store.proofs.BelongLemmas.{pair_refused}
use Rattle.osc_store.proofs.FindLemmas.{fails_wider, more_faults, same_image, surely}
use Rattle.osc_store.proofs.FileLemmas.{alone_then, both_read, leaves_read, only_read_then}
use Rattle.osc_store.proofs.files.open_intact.Goals as goal

pub returns-in-Ok-open_checked-clause-found : goal.returns-in-Ok-open_checked-clause-found
returns-in-Ok-open_checked-clause-found g c clean =
    let read = c.check_damage.ensures in
    subst (λ i. FindsTree i c.in-Ok-open_checked.opened.1) (same_image read.log read.db) (c.in-Ok-open_checked.ensures.found clean)

pub returns-in-Ok-open_checked-clause-sums : goal.returns-in-Ok-open_checked-clause-sums
returns-in-Ok-open_checked-clause-sums g c clean unmade =
    let read = c.check_damage.ensures in
    c.in-Ok-open_checked.ensures.sums clean (subst IsUnmade (sym (same_image read.log read.db)) unmade)

pub returns-in-Ok-open_checked-clause-belong : goal.returns-in-Ok-open_checked-clause-belong
returns-in-Ok-open_checked-clause-belong g c clean =
    let read = c.check_damage.ensures in
    subst BelongTogether (same_image read.log read.db) (c.in-Ok-open_checked.ensures.belong clean)

pub returns-in-Ok-open_checked-clause-intact : goal.returns-in-Ok-open_checked-clause-intact
returns-in-Ok-open_checked-clause-intact g c clean = c.in-Ok.ensures.ok (c.in-Ok-open_checked.ensures.honest clean)

pub returns-in-Err-open_checked-clause-stops : goal.returns-in-Err-open_checked-clause-stops
returns-in-Err-open_checked-clause-stops g c clean =
    let new = c.check_damage.new.files in
    let read = c.check_damage.ensures in
    let seen = same_image read.log read.db in
    let it = c.in-Err-open_checked.ensures.stops clean in
    record {
      honest = both_read c.args.files new read.log read.db it.honest;
      counts = omega (arith, read.counts, it.counts);
      cause = elim it.cause [
        | inl why ↦ inl (fails_wider _ _ _ _ _ _ _ _ c.in-Err-open_checked.error (more_faults _ _ _ _ read.counts (omega arith)) (λ l. l) (λ store. surely (subst IsStore (sym seen) store)) (subst IsOtherVersion seen) why)
        | inr why ↦ inr (pair_refused _ c.in-Err-open_checked.error (subst (λ i. RefusesPair i ⊥ c.in-Err-open_checked.error) seen why))
      ];
      goes_on = λ tree found leaves. it.goes_on tree (subst (λ i. FindsTree i tree) (sym seen) found) (leaves_read c.args.files new read.log read.db tree leaves);
    }

pub returns-in-Err-open_checked-clause-read : goal.returns-in-Err-open_checked-clause-read
returns-in-Err-open_checked-clause-read g c none = only_read_then c.args.files c.check_damage.new.files c.check_damage.ensures.log c.check_damage.ensures.db _ (c.in-Err-open_checked.ensures.read none)

pub returns-in-Err-open_checked-clause-left_alone : goal.returns-in-Err-open_checked-clause-left_alone
returns-in-Err-open_checked-clause-left_alone g c clean refusal =
    alone_then c.args.files c.check_damage.new.files c.check_damage.ensures.log c.check_damage.ensures.db _ (c.in-Err-open_checked.ensures.left_alone clean refusal)

pub returns-in-Err-clause-stops : goal.returns-in-Err-clause-stops
returns-in-Err-clause-stops g c clean =
    let new = c.check_damage.new.files in
    let read = c.check_damage.ensures in
    record {
      honest = both_read c.args.files new read.log read.db clean;
      counts = read.counts;
      cause = elim (c.in-Err.ensures.cause clean) [
        | inl why ↦ inl (fails_wider _ _ _ _ _ _ _ _ c.in-Err.error (λ f. f) (λ l. l) (λ _. surely tt) (λ o. absurd o) why)
        | inr why ↦ inr why
      ];
      goes_on = λ tree found leaves. leaves_read c.args.files new read.log read.db tree leaves;
    }
