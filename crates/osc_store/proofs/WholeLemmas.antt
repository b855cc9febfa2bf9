-- What a database file holds alone.
use Rattle.std.proofs.Common.{◌≡◌, ℕ, List, [], IsTrue, Result, Ok, Err, OnOk, OnErr, IfErr, false, ◌≢◌, ◌⊎◌, ne_eqb, inl, inr, refl, sym, subst, ap, ◌∙◌}
use Rattle.std.proofs.Math.Logic.{∥∥₁_map}
use Rattle.sqlite_disk.specs.declared.Disk.{Ghosts}
use Rattle.sqlite_wal.specs.Recovery.{Image}
use Rattle.sqlite_wal.proofs.LogLemmas.{SeenMayStay}
use Rattle.sqlite_pool.proofs.StateLemmas.{file_alone, size_is_allowed}
use Rattle.sqlite_trees.specs.View.{IsClean, View, Commits, IsFailure, IsRolledBack, KeepsSchema, OnlyWrites, SetsTree}
use Rattle.sqlite_trees.specs.declared.error.StoreError.{StoreError}
use Rattle.sqlite_trees.specs.Objects.{catalog_tree}
use Rattle.sqlite_value.specs.Order.{Row}
use Rattle.sqlite_trees.proofs.Doubt.{clean_of}
use Rattle.sqlite_store.specs.FileStore.{log_frames, state, view}
use Rattle.sqlite_store.specs.Listing.{IsOurs}
use Rattle.sqlite_store.specs.Saved.{kept_schema}
use Rattle.sqlite_store.specs.declared.store.FileStore.{FileStore}
use Rattle.osc_model.specs.Tree.{Tree}
use Rattle.sqlite_trees.specs.Tree.{Trees}
use Rattle.osc_store.specs.Inner.Writing.{KeepsList}
use Rattle.osc_store.specs.Keeping.{IsReady}
use Rattle.osc_store.specs.{Holds, IsWhole, Keeps, ListsTable, MayHold, MayLeave, ReadsAs}

-- where the log has no frame, the database file alone is found as the tree that is committed
pub whole_alone : {D : Type 0} {g : Ghosts D} (it : FileStore D g) → SeenMayStay g → (tree : Tree) → IsClean (view it) → IsTrue (view it).is_open → IsTrue (view it).is_numbered
    → ListsTable (view it).committed → Holds (view it).committed tree → log_frames it ≡ 0 → IsWhole it tree
whole_alone it stays tree none is_open numbered lists holds empty left may =
    let clean = clean_of _ none in
    let alone : Image = record { log = []; db = left.db } in
    let found = file_alone it.pool stays is_open empty left may in
    ∥∥₁_map (size_is_allowed it.pool) (λ sized.
    let reads : ReadsAs alone (view it).committed = record {
      size = (state it).page_size;
      pages = (state it).committed;
      wanted = kept_schema it.saved it.schema.items;
      sized = sized;
      found = found;
      ours = ∥∥₁_map (it.stored is_open) (λ stored. subst (λ b. IsOurs (state it).page_size b (kept_schema it.saved it.schema.items) (state it).committed) numbered stored.ours);
      reads = rw clean refl;
    } in
    inl ((view it).committed, reads, lists, holds))

pub on_ok_two : {X E : Type 0} (r : Result X E) (A B C : Type 0) → (A → B → C) → OnOk r A → OnOk r B → OnOk r C
on_ok_two (Ok x) A B C f a b = f a b
on_ok_two (Err e) A B C f a b = tt

-- a store that shows the same and leaves no more keeps the same tree
module _ {S : Type 0} (v : S → View) (recovers : S → Trees → Type 0) (old new : S) (tree : Tree) (keeps : Keeps v recovers old tree)
    (less : (db : Trees) → recovers new db → recovers old db) where
  pub keeps_on : v new ≡ v old → Keeps v recovers new tree
  keeps_on same = record {
    ready = subst IsReady (sym same) keeps.ready;
    settled = subst (λ (w : View). w.trees ≡ w.committed) (sym same) keeps.settled;
    lists = subst (λ (w : View). ListsTable w.trees) (sym same) keeps.lists;
    holds = subst (λ (w : View). Holds w.trees tree) (sym same) keeps.holds;
    left = λ db may. keeps.left db (less db may);
  }

  -- and where it shows the same only if it is open, it leaves the tree
  pub leaves_on : (IsTrue (v new).is_open → v new ≡ v old) → MayLeave v recovers new tree tree
  leaves_on same = record {
    numbered = λ on. subst (λ (w : View). IsTrue w.is_numbered) (sym (same on)) keeps.ready.numbered;
    left = λ db may. let held = keeps.left db (less db may) in (held.0, inl held.1);
  }

pub held_leaves : {S : Type 0} (v : S → View) (recovers : S → Trees → Type 0) (s : S) (before after : Tree) → MayHold v recovers s before after → MayLeave v recovers s before after
held_leaves v recovers s before after may = record { numbered = λ _. may.numbered; left = may.left }

-- one that leaves a tree leaves it or another
pub leaves_either : {S : Type 0} (v : S → View) (recovers : S → Trees → Type 0) (s : S) (before after : Tree) → MayLeave v recovers s before before → MayLeave v recovers s before after
leaves_either v recovers s before after may = record {
  numbered = may.numbered;
  left = λ db there. let held = may.left db there in (held.0, elim held.1 [ inl a ↦ inl a | inr b ↦ inl b ]);
}

-- ---- a commit of a mark

pub set_keeps_schema : (old new : View) (tree : ℕ) (edit : List Row → List Row) → SetsTree old new tree edit → KeepsSchema old new
set_keeps_schema old new tree edit sets = record {
  shape = ap (λ (w : View). w.shape) sets.is;
  reals = ap (λ (w : View). w.reals) sets.is;
  committed_shape = ap (λ (w : View). w.committed_shape) sets.is;
  committed_reals = ap (λ (w : View). w.committed_reals) sets.is;
  numbered = ap (λ (w : View). w.is_numbered) sets.is;
}

pub failed_keeps_schema : (old new : View) (e : StoreError) → IsFailure old new e → KeepsSchema old new
failed_keeps_schema old new e failed = record {
  shape = failed.kept.shape;
  reals = failed.kept.reals;
  committed_shape = failed.kept.committed_shape;
  committed_reals = failed.kept.committed_reals;
  numbered = failed.kept.numbered;
}

pub either_schema : {X : Type 0} (r : Result X StoreError) (old new : View) (tree : ℕ) (edit : List Row → List Row) → OnOk r (IsClean new → SetsTree old new tree edit)
    → IfErr r (IsFailure old new) → IsClean new → KeepsSchema old new
either_schema (Ok x) old new tree edit sets failed clean = set_keeps_schema old new tree edit (sets clean)
either_schema (Err e) old new tree edit sets failed clean = failed_keeps_schema old new e failed

-- another tree than the one that is set
pub other_tree : (old new : View) (set other : ℕ) (edit : List Row → List Row) → SetsTree old new set edit → other ≢ set → new.trees other ≡ old.trees other
other_tree old new set other edit sets apart = ap (λ (w : View). w.trees other) sets.is ∙ rw (ne_eqb other set apart) refl

pub sums_only : (old mid new : View) → OnlyWrites old mid → Commits mid new → new.has_sums ≡ old.has_sums
sums_only old mid new only commits = ap (λ (w : View). w.has_sums) commits.is ∙ ap (λ (w : View). w.has_sums) only

module _ {S : Type 0} (v : S → View) (recovers : S → Trees → Type 0) (old mid new : S) (tree : Tree) (keeps : Keeps v recovers old tree)
    (less : (db : Trees) → recovers mid db → recovers old db) where
  -- what is written but not committed
  pub unwritten : KeepsSchema (v old) (v mid) → MayHold v recovers mid tree tree
  unwritten schema = record {
    numbered = schema.numbered ∙ keeps.ready.numbered;
    left = λ db may. let held = keeps.left db (less db may) in (held.0, inl held.1);
  }

  module _ (only : OnlyWrites (v old) (v mid)) (list : KeepsList (v old) (v mid)) (holds : Holds (v mid).trees tree)
      (crash : (db : Trees) → recovers new db → (((v mid).is_broken ≡ false) × (db ≡ (v mid).trees)) ⊎ recovers mid db) where
    left_marked : (db : Trees) → recovers new db → ListsTable db × Holds db tree
    left_marked db may = elim (crash db may) [
      | inl now ↦ (ap (λ (t : Trees). t catalog_tree) now.1 ∙ list ∙ keeps.lists, ap (λ (t : Trees). t 0) now.1 ∙ holds)
      | inr was ↦ keeps.left db (less db was)
    ]

    pub sound_mid : (v mid).is_broken ≡ false
    sound_mid = ap (λ (w : View). w.is_broken) only ∙ keeps.ready.sound

    pub marked_keeps : Commits (v mid) (v new) → Keeps v recovers new tree
    marked_keeps commits = record {
      ready = record {
        is_open = ap (λ (w : View). w.is_open) commits.is ∙ ap (λ (w : View). w.is_open) only ∙ keeps.ready.is_open;
        sound = ap (λ (w : View). w.is_broken) commits.is ∙ sound_mid;
        table = (
          ap (λ (w : View). w.shape 0) commits.is ∙ ap (λ (w : View). w.shape 0) only ∙ keeps.ready.table.0,
          ap (λ (w : View). w.reals 0) commits.is ∙ ap (λ (w : View). w.reals 0) only ∙ keeps.ready.table.1,
        );
        numbered = ap (λ (w : View). w.is_numbered) commits.is ∙ ap (λ (w : View). w.is_numbered) only ∙ keeps.ready.numbered;
      };
      settled = ap (λ (w : View). w.trees) commits.is ∙ sym (ap (λ (w : View). w.committed) commits.is);
      lists = ap (λ (w : View). w.trees catalog_tree) commits.is ∙ list ∙ keeps.lists;
      holds = ap (λ (w : View). w.trees 0) commits.is ∙ holds;
      left = left_marked;
    }

    pub marked_leaves : {X E : Type 0} (r : Result X E) → OnOk r (Commits (v mid) (v new)) → OnErr r (IsRolledBack (v mid) (v new)) → MayHold v recovers new tree tree
    marked_leaves (Ok x) commits back = record {
      numbered = ap (λ (w : View). w.is_numbered) commits.is ∙ ap (λ (w : View). w.is_numbered) only ∙ keeps.ready.numbered;
      left = λ db may. let held = left_marked db may in (held.0, inl held.1);
    }
    marked_leaves (Err e) commits back = record {
      numbered = back.numbered ∙ ap (λ (w : View). w.is_numbered) only ∙ keeps.ready.numbered;
      left = λ db may. let held = left_marked db may in (held.0, inl held.1);
    }
