use Rattle.std.proofs.Common.{◌≡◌, ◌∙◌, true, rules, inl, inr, arith, ap, ap₂, sym, subst, subst₂}
use Rattle.std.proofs.Math.Logic.{∥∥₁_elim, ∥∥₁_map}
use Rattle.sqlite_wal.specs.PageSize.{IsPageSize, bytes_of}
use Rattle.sqlite_pool.specs.File.{in_use}
use Rattle.sqlite_pool.specs.Opening.{IsBlankFile}
use Rattle.sqlite_pool.specs.Stored.{Recovers, stored_size, used_size}
use Rattle.sqlite_pool.specs.StoredLaws.{recovers_once}
use Rattle.sqlite_trees.specs.declared.store.Shape.TheVariants.{Table}
use Rattle.sqlite_store.specs.Db.{rows_at}
use Rattle.sqlite_store.specs.FileStore.{state}
use Rattle.sqlite_store.specs.Listing.{IsOurs}
use Rattle.sqlite_store.specs.Opening.{IsEmptyFile}
use Rattle.sqlite_store.specs.Unopened.{image, state_of, wanted_by}
use Rattle.osc_store.specs.{FindsTree, IsEmpty, IsStore, IsUnmade, page, schema, Fits, IsOver, IsOtherVersion, Lists, image_of}
use Rattle.osc_store.proofs.FindLemmas.{fails_wider, more_faults, stored_used, surely_some}
use Rattle.osc_store.proofs.FileLemmas.{clean_here, clean_there, faults_same, image_same, leaves_here, leaves_there}
use Rattle.osc_store.proofs.StartLemmas.{opens_goes_on, read_is_made}
use Rattle.osc_store.proofs.TakeLemmas.{empty_case, no_other, only_new, opens_then, own_case, still_found, store_is_file}
use Rattle.osc_store.proofs.starting.take.Goals.{then-bytes-eq-NEW_SIZE+else-has_sums, else-bytes-eq-NEW_SIZE}
use Rattle.osc_store.proofs.starting.take.Goals as goal

pub returns-in-Err-look-clause-spares : goal.returns-in-Err-look-clause-spares
returns-in-Err-look-clause-spares g c early =
    let files = c.args.files in
    let fresh = c.in-Ok.fresh in
    let same = c.in-Ok.ensures.files in
    let seen = image_same fresh files same in
    let there = clean_there fresh files same (c.look.ensures.honest early) in
    let fits : Fits (image fresh) (state_of fresh).page_size = subst₂ Fits (sym seen) (sym c.in-Ok.ensures.size) (c.requires.fits there) in
    let some : ¬ IsBlankFile page (image fresh) = subst (λ i. ¬ IsBlankFile page i) (sym seen) (c.requires.some there) in
    let kept = c.look.ensures.kept early in
    let count = faults_same fresh files same in
    record {
      honest = there;
      counts = omega (arith, count, kept.counts);
      cause = fails_wider _ _ _ _ _ _ _ _ c.in-Err-look.error (more_faults _ _ _ _ (omega (arith, count)) (omega arith)) (λ l. ∥∥₁_map l inl)
          (λ store. surely_some (store_is_file fresh fits some (subst IsStore (sym seen) store)) (λ f. f)) (λ o. absurd o) (c.in-Err-look.ensures.cause early);
      goes_on = λ _ tree found leaves. opens_goes_on fresh _ kept fits some tree (subst (λ i. FindsTree i tree) (sym seen) found) (leaves_here fresh files same tree leaves);
    }

pub enter-requires-clause-sized : goal.enter-requires-clause-sized
enter-requires-clause-sized g c early =
    let size = c.args.size in
    let sized : stored_size (state_of c.look.new.files).page_size ≡ bytes_of size = ap stored_size ((c.look.ensures.kept early).size ∙ c.in-Ok.ensures.size) ∙ stored_used size c.args.has_sums in
    subst IsPageSize (sym sized) (size.smallest, size.largest, size.power, size.aligned)

pub returns-in-Ok-enter-clause-gives : goal.returns-in-Ok-enter-clause-gives
returns-in-Ok-enter-clause-gives g c clean =
    let files = c.args.files in
    let fresh = c.in-Ok.fresh in
    let same = c.in-Ok.ensures.files in
    let seen = image_same fresh files same in
    let e = c.in-Ok-enter.ensures in
    let store = c.in-Ok-enter.store in
    let early = e.honest clean in
    let there = clean_there fresh files same (c.look.ensures.honest early) in
    let fits : Fits (image fresh) (state_of fresh).page_size = subst₂ Fits (sym seen) (sym c.in-Ok.ensures.size) (c.requires.fits there) in
    let some : ¬ IsBlankFile page (image fresh) = subst (λ i. ¬ IsBlankFile page i) (sym seen) (c.requires.some there) in
    let mid = c.look.new.files in
    let kept = c.look.ensures.kept early in
    let look = c.in-Ok-look.ensures.ok early in
    let alike = recovers_once (state_of fresh).page_size (image mid) look.pages (state store).committed look.again (subst (λ n. Recovers n (image mid) (state store).committed) kept.size (e.found clean)) in
    let here : Recovers (state_of mid).page_size (image fresh) (state store).committed = subst₂ (λ n p. Recovers n (image fresh) p) (sym kept.size) alike look.before in
    let reads = e.reads clean (image fresh) here in
    let over : IsOver (image fresh) store = record {
      ready = e.ready clean;
      settled = e.settled;
      lists = e.lists clean;
      shows = inl reads;
      sums = λ unmade. absurd (read_is_made (image fresh) _ reads (e.lists clean) unmade);
    } in
    record {
      honest = there;
      over = subst (λ i. IsOver i store) seen over;
      counts = omega (arith, faults_same fresh files same, kept.counts, e.counts clean);
      goes_on = λ tree found leaves. opens_goes_on fresh (state store) (opens_then fresh mid look.pages look.before look.again (state store) kept (e.kept clean)) fits some tree
          (subst (λ i. FindsTree i tree) (sym seen) found) (leaves_here fresh files same tree leaves);
    }

pub returns-in-Err-enter-clause-spares : goal.returns-in-Err-enter-clause-spares
returns-in-Err-enter-clause-spares g c clean =
    let files = c.args.files in
    let fresh = c.in-Ok.fresh in
    let same = c.in-Ok.ensures.files in
    let seen = image_same fresh files same in
    let e = c.in-Err-enter.ensures in
    let early = e.falls clean in
    let there = clean_there fresh files same (c.look.ensures.honest early) in
    let fits : Fits (image fresh) (state_of fresh).page_size = subst₂ Fits (sym seen) (sym c.in-Ok.ensures.size) (c.requires.fits there) in
    let some : ¬ IsBlankFile page (image fresh) = subst (λ i. ¬ IsBlankFile page i) (sym seen) (c.requires.some there) in
    let mid = c.look.new.files in
    let kept = c.look.ensures.kept early in
    let look = c.in-Ok-look.ensures.ok early in
    let own = subst (λ l. Lists l (rows_at (state_of fresh).page_size (in_use (state_of fresh).page_size look.pages) Table 1)) c.in-Own.is look.lists in
    let wanted : wanted_by mid ≡ schema = c.look.ensures.schema ∙ c.in-Ok.ensures.schema in
    let count = faults_same fresh files same in
    let undone = e.unharmed clean in
    record {
      honest = there;
      counts = omega (arith, count, kept.counts, undone.counts);
      cause = fails_wider _ _ _ _ _ _ _ _ c.in-Err-enter.error (more_faults _ _ _ _ (omega (arith, count, kept.counts)) (omega arith)) (λ l. ∥∥₁_map l inl)
          (λ store. let at = subst IsStore (sym seen) store in
          surely_some (own_case fresh fits some look.pages look.before at.0 at.1 own) (λ ours. (
            look.pages,
            subst (λ n. Recovers n (image mid) look.pages) (sym kept.size) look.again,
            subst₂ (λ n s. IsOurs n true s look.pages) (sym kept.size) (sym wanted) ours,
          )))
          (λ o. absurd o) (e.cause clean);
      goes_on = λ _ tree found leaves. opens_goes_on fresh _ (opens_then fresh mid look.pages look.before look.again _ kept undone) fits some tree
          (subst (λ i. FindsTree i tree) (sym seen) found) (leaves_here fresh files same tree leaves);
    }

pub returns-in-Ok-remake-clause-gives : goal.returns-in-Ok-remake-clause-gives
returns-in-Ok-remake-clause-gives g c clean =
    let files = c.args.files in
    let fresh = c.in-Ok.fresh in
    let same = c.in-Ok.ensures.files in
    let seen = image_same fresh files same in
    let mid = c.look.new.files in
    let closed = c.close.result in
    let shut = sym c.close.ensures in
    let it = c.in-Ok-remake.ensures.gives clean in
    let started = c.in-Ok-remake.ensures.started clean in
    let store = c.in-Ok-remake.store in
    let early = clean_here mid closed shut it.honest in
    let there = clean_there fresh files same (c.look.ensures.honest early) in
    let fits : Fits (image fresh) (state_of fresh).page_size = subst₂ Fits (sym seen) (sym c.in-Ok.ensures.size) (c.requires.fits there) in
    let some : ¬ IsBlankFile page (image fresh) = subst (λ i. ¬ IsBlankFile page i) (sym seen) (c.requires.some there) in
    let kept = c.look.ensures.kept early in
    let look = c.in-Ok-look.ensures.ok early in
    let later = image_same mid closed shut in
    let bytes : bytes_of c.args.size ≡ 4096 = search rules in
    let new : (state_of fresh).page_size ≡ page = c.in-Ok.ensures.size ∙ ap₂ used_size bytes c.if-has_sums.true in
    let unmade : IsUnmade (image fresh) = ∥∥₁_map started.0 (λ empty.
    let at : IsEmpty (image mid) = subst IsEmpty (sym later) empty in
    let alike = recovers_once page (image mid) at.0 look.pages at.1 (subst (λ n. Recovers n (image mid) look.pages) new look.again) in
    inr (look.pages, subst (λ n. Recovers n (image fresh) look.pages) new look.before, subst (IsEmptyFile page) alike at.2)) in
    let over : IsOver (image fresh) store = record {
      ready = it.over.ready;
      settled = it.over.settled;
      lists = it.over.lists;
      shows = inr (unmade, started.1);
      sums = λ _. it.over.sums (∥∥₁_map started.0 inr);
    } in
    record {
      honest = there;
      over = subst (λ i. IsOver i store) seen over;
      counts = omega (arith, faults_same fresh files same, kept.counts, faults_same mid closed shut, it.counts);
      goes_on = λ tree found leaves left may.
          let at = subst (λ i. FindsTree i tree) (sym seen) found in
          let here = opens_goes_on fresh (state_of mid) kept fits some tree at (leaves_here fresh files same tree leaves) in
          ∥∥₁_elim (still_found fresh mid look.pages look.before look.again fits some tree at) squash₁ (λ still.
          it.goes_on tree (subst (λ i. FindsTree i tree) later still) (leaves_there mid closed shut early tree here) left may);
    }

pub returns-in-Err-remake-clause-spares : goal.returns-in-Err-remake-clause-spares
returns-in-Err-remake-clause-spares g c clean =
    let files = c.args.files in
    let fresh = c.in-Ok.fresh in
    let same = c.in-Ok.ensures.files in
    let seen = image_same fresh files same in
    let mid = c.look.new.files in
    let closed = c.close.result in
    let shut = sym c.close.ensures in
    let it = c.in-Err-remake.ensures.spares clean in
    let early = clean_here mid closed shut it.honest in
    let there = clean_there fresh files same (c.look.ensures.honest early) in
    let fits : Fits (image fresh) (state_of fresh).page_size = subst₂ Fits (sym seen) (sym c.in-Ok.ensures.size) (c.requires.fits there) in
    let some : ¬ IsBlankFile page (image fresh) = subst (λ i. ¬ IsBlankFile page i) (sym seen) (c.requires.some there) in
    let kept = c.look.ensures.kept early in
    let look = c.in-Ok-look.ensures.ok early in
    let later = image_same mid closed shut in
    let none = subst (λ l. Lists l (rows_at (state_of fresh).page_size (in_use (state_of fresh).page_size look.pages) Table 1)) c.in-Nothing.is look.lists in
    let empty = λ (h : (page ≡ (state_of fresh).page_size) × IsEmptyFile page look.pages).
    let x : IsEmpty (image_of g.D.Disk closed) = subst IsEmpty later (look.pages, subst (λ n. Recovers n (image mid) look.pages) (sym h.0) look.again, h.1) in x in
    record {
      honest = there;
      counts = omega (arith, faults_same fresh files same, kept.counts, faults_same mid closed shut, it.counts);
      cause = fails_wider _ _ _ _ _ _ _ _ c.in-Err-remake.error (more_faults _ _ _ _ (omega (arith, faults_same fresh files same, kept.counts, faults_same mid closed shut)) (omega arith)) (λ l. l)
          (λ store. let at = subst IsStore (sym seen) store in surely_some (empty_case fresh fits some look.pages look.before at.0 at.1 none) empty)
          (λ o. absurd o) it.cause;
      goes_on = λ _ tree found leaves left may.
          let at = subst (λ i. FindsTree i tree) (sym seen) found in
          let here = opens_goes_on fresh (state_of mid) kept fits some tree at (leaves_here fresh files same tree leaves) in
          ∥∥₁_elim (empty_case fresh fits some look.pages look.before tree at none) squash₁ (λ h.
          ∥∥₁_elim (still_found fresh mid look.pages look.before look.again fits some tree at) squash₁ (λ still.
          it.goes_on (empty h) tree (subst (λ i. FindsTree i tree) later still) (leaves_there mid closed shut early tree here) left may));
    }

pub returns-in-Other-clause-spares : goal.returns-in-Other-clause-spares
returns-in-Other-clause-spares g c early =
    let files = c.args.files in
    let fresh = c.in-Ok.fresh in
    let same = c.in-Ok.ensures.files in
    let seen = image_same fresh files same in
    let there = clean_there fresh files same (c.look.ensures.honest early) in
    let fits : Fits (image fresh) (state_of fresh).page_size = subst₂ Fits (sym seen) (sym c.in-Ok.ensures.size) (c.requires.fits there) in
    let some : ¬ IsBlankFile page (image fresh) = subst (λ i. ¬ IsBlankFile page i) (sym seen) (c.requires.some there) in
    let kept = c.look.ensures.kept early in
    let look = c.in-Ok-look.ensures.ok early in
    let other = subst (λ l. Lists l (rows_at (state_of fresh).page_size (in_use (state_of fresh).page_size look.pages) Table 1)) c.in-Other.is look.lists in
    record {
      honest = there;
      counts = omega (arith, faults_same fresh files same, kept.counts);
      cause = (
        subst IsOtherVersion seen ((state_of fresh).page_size, look.pages, look.before, other),
        λ store. no_other fresh fits some look.pages look.before (subst IsStore (sym seen) store) other.1 (λ none. let h = sym other.0.2 ∙ none in cc),
      );
      goes_on = λ _ tree found leaves. opens_goes_on fresh _ kept fits some tree (subst (λ i. FindsTree i tree) (sym seen) found) (leaves_here fresh files same tree leaves);
    }

pub returns-in-Nothing-2-clause-spares : goal.returns-in-Nothing-2-clause-spares
returns-in-Nothing-2-clause-spares g c early =
    let files = c.args.files in
    let fresh = c.in-Ok.fresh in
    let same = c.in-Ok.ensures.files in
    let seen = image_same fresh files same in
    let there = clean_there fresh files same (c.look.ensures.honest early) in
    let fits : Fits (image fresh) (state_of fresh).page_size = subst₂ Fits (sym seen) (sym c.in-Ok.ensures.size) (c.requires.fits there) in
    let some : ¬ IsBlankFile page (image fresh) = subst (λ i. ¬ IsBlankFile page i) (sym seen) (c.requires.some there) in
    let kept = c.look.ensures.kept early in
    let look = c.in-Ok-look.ensures.ok early in
    let none = subst (λ l. Lists l (rows_at (state_of fresh).page_size (in_use (state_of fresh).page_size look.pages) Table 1)) c.in-Nothing-2.is look.lists in
    let new = λ (h : (page ≡ (state_of fresh).page_size) × IsEmptyFile page look.pages). only_new c.args.size c.args.has_sums (h.0 ∙ c.in-Ok.ensures.size) in
    record {
      honest = there;
      counts = omega (arith, faults_same fresh files same, kept.counts);
      cause = λ store.
          let at = subst IsStore (sym seen) store in
          surely_some (empty_case fresh fits some look.pages look.before at.0 at.1 none) (λ h. let x = new h in let bytes = c.bytes.ensures.value in elim c.if-bytes-eq-NEW_SIZE.branch [
            | then-bytes-eq-NEW_SIZE+else-has_sums w ↦ let off = w.if-has_sums.false in let both = sym x.1 ∙ off in cc
            | else-bytes-eq-NEW_SIZE w ↦ search rules
          ]) (λ x. x);
      goes_on = λ _ tree found leaves. opens_goes_on fresh _ kept fits some tree (subst (λ i. FindsTree i tree) (sym seen) found) (leaves_here fresh files same tree leaves);
    }

pub returns-in-Foreign-clause-spares : goal.returns-in-Foreign-clause-spares
returns-in-Foreign-clause-spares g c early =
    let files = c.args.files in
    let fresh = c.in-Ok.fresh in
    let same = c.in-Ok.ensures.files in
    let seen = image_same fresh files same in
    let there = clean_there fresh files same (c.look.ensures.honest early) in
    let fits : Fits (image fresh) (state_of fresh).page_size = subst₂ Fits (sym seen) (sym c.in-Ok.ensures.size) (c.requires.fits there) in
    let some : ¬ IsBlankFile page (image fresh) = subst (λ i. ¬ IsBlankFile page i) (sym seen) (c.requires.some there) in
    let kept = c.look.ensures.kept early in
    let look = c.in-Ok-look.ensures.ok early in
    let foreign = subst (λ l. Lists l (rows_at (state_of fresh).page_size (in_use (state_of fresh).page_size look.pages) Table 1)) c.in-Foreign.is look.lists in
    record {
      honest = there;
      counts = omega (arith, faults_same fresh files same, kept.counts);
      cause = λ store. no_other fresh fits some look.pages look.before (subst IsStore (sym seen) store) foreign.1 foreign.0;
      goes_on = λ _ tree found leaves. opens_goes_on fresh _ kept fits some tree (subst (λ i. FindsTree i tree) (sym seen) found) (leaves_here fresh files same tree leaves);
    }
