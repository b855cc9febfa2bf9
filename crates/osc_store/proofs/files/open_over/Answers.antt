use Rattle.std.proofs.Common.{◌≡◌, ◌∙◌, arith, ap, inl, sym, subst}
use Rattle.std.proofs.Math.Logic.{∥∥₁_elim, ∥∥₁_map}
use Rattle.sqlite_trees.proofs.Doubt.{clean_of, no_doubt}
use Rattle.sqlite_trees.specs.View.{View}
use Rattle.sqlite_store.specs.FileStore.{view}
use Rattle.sqlite_store.specs.Laws.{settled_at}
use Rattle.osc_store.specs.{Holds, ListsTable, image_of}
use Rattle.osc_store.proofs.ViewLemmas.{clean_before}
use Rattle.osc_store.proofs.FindLemmas.{fails_wider, more_faults, surely_some}
use Rattle.osc_store.proofs.StartLemmas.{finds_shown, held_in_shown, outcome_read}
use Rattle.osc_store.proofs.files.open_over.Goals as goal

pub adopt-requires-clause-ready : goal.adopt-requires-clause-ready
adopt-requires-clause-ready g c clean = (c.in-Ok.ensures.gives (clean_of _ clean)).over.ready

pub adopt-requires-clause-lists : goal.adopt-requires-clause-lists
adopt-requires-clause-lists g c clean = (c.in-Ok.ensures.gives (clean_of _ clean)).over.lists

pub returns-in-Ok-adopt-clause-kept : goal.returns-in-Ok-adopt-clause-kept
returns-in-Ok-adopt-clause-kept g c clean = c.in-Ok-adopt.ensures.kept (no_doubt _ clean)

pub returns-in-Ok-adopt-clause-found : goal.returns-in-Ok-adopt-clause-found
returns-in-Ok-adopt-clause-found g c clean =
    let e = c.in-Ok-adopt.ensures in
    let early = clean_of _ (clean_before (view c.in-Ok.store) (view c.in-Ok-adopt.opened.0) e.quiet.clean (no_doubt _ clean)) in
    let over = (c.in-Ok.ensures.gives early).over in
    finds_shown (image_of g.D.Disk c.args.files) (view c.in-Ok.store).committed c.in-Ok-adopt.opened.1 over.shows over.lists (e.held (no_doubt _ clean))

pub returns-in-Ok-adopt-clause-sums : goal.returns-in-Ok-adopt-clause-sums
returns-in-Ok-adopt-clause-sums g c clean unmade =
    let e = c.in-Ok-adopt.ensures in
    let early = clean_of _ (clean_before (view c.in-Ok.store) (view c.in-Ok-adopt.opened.0) e.quiet.clean (no_doubt _ clean)) in
    let over = (c.in-Ok.ensures.gives early).over in
    ap (λ (w : View). w.has_sums) (e.same (no_doubt _ clean)) ∙ over.sums unmade

pub returns-in-Err-adopt-clause-spares : goal.returns-in-Err-adopt-clause-spares
returns-in-Err-adopt-clause-spares g c clean =
    let e = c.in-Err-adopt.ensures in
    let first = c.in-Ok.store in
    let last = c.in-Err-adopt.store in
    let image = image_of g.D.Disk c.args.files in
    let early = clean_of _ (clean_before (view first) (view last) e.undone.clean (no_doubt _ clean)) in
    let gives = c.in-Ok.ensures.gives early in
    let over = gives.over in
    record {
      honest = gives.honest;
      counts = omega (arith, gives.counts, e.undone.counts);
      cause = fails_wider _ _ _ _ _ _ _ _ c.in-Err-adopt.error (more_faults _ _ _ _ gives.counts (omega arith)) (λ l. l)
          (λ store. surely_some (held_in_shown image (view first).committed store.0 over.shows over.lists store.1) (λ holds. (store.0, store.2, holds)))
          (λ o. absurd o) (e.cause (no_doubt _ clean));
      goes_on = λ _ tree found leaves left may.
          ∥∥₁_elim (held_in_shown image (view first).committed tree over.shows over.lists found) squash₁ (λ holds.
          ∥∥₁_map (outcome_read last (e.numbered ∙ over.ready.numbered) left may) (λ read.
          let is : read.0 ≡ (view first).committed = settled_at first g.met.D.Disk.seen_may_stay read.0 over.ready.is_open (e.undone.outcomes read.0 read.1) in
          inl (read.0, read.2, subst ListsTable (sym is) over.lists, subst (λ db. Holds db tree) (sym is) holds)));
    }

pub returns-in-Ok-adopt-clause-honest : goal.returns-in-Ok-adopt-clause-honest
returns-in-Ok-adopt-clause-honest g c clean =
    let e = c.in-Ok-adopt.ensures in
    let early = clean_of _ (clean_before (view c.in-Ok.store) (view c.in-Ok-adopt.opened.0) e.quiet.clean (no_doubt _ clean)) in
    (c.in-Ok.ensures.gives early).honest
