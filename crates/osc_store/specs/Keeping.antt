-- A store that keeps a tree.
use Rattle.std.specs.Prelude.{◌≡◌, ◌⊎◌, false, Bool, IsTrue}
use Rattle.std.proofs.Common.{inl, inr, refl}
use Rattle.sqlite_value.specs.Keys.{plain}
use Rattle.sqlite_trees.specs.Tree.{Trees}
use Rattle.sqlite_trees.specs.View.{View}
use Rattle.sqlite_trees.specs.declared.store.Shape.TheVariants.{Index}
use Rattle.osc_model.specs.Tree.{Tree}
use Rattle.osc_store.specs.Rows.{Holds}
use Rattle.osc_store.specs.Starting.{ListsTable}

-- the first tree is the table, of which no column is REAL
abbrev pub HasTable : View → Type 0
HasTable v = (v.shape 0 ≡ Index plain) × (v.reals 0 ≡ 0)

-- the store is open on its table, nothing failed, and tree t is the object of rowid t + 1 in sqlite_schema
pub record IsReady (v : View) : Type 0 where
  pub is_open : IsTrue v.is_open
  pub sound : v.is_broken ≡ false
  pub table : HasTable v
  pub numbered : IsTrue v.is_numbered

once : {A B : Type 0} → A ⊎ A → A ⊎ B
once (inl it) = inl it
once (inr it) = inl it

module _ {S : Type 0} (view : S → View) (recovers : S → Trees → Type 0) where
  -- nothing is written that isn't committed, and each crash leaves a file of this table that holds this tree
  pub record Keeps (s : S) (tree : Tree) : Type 0 where
    pub ready : IsReady (view s)
    pub settled : (view s).trees ≡ (view s).committed
    pub lists : ListsTable (view s).trees
    pub holds : Holds (view s).trees tree
    pub left : (db : Trees) → recovers s db → ListsTable db × Holds db tree

  -- Each crash leaves a file of this table that holds the first tree, and the second is what has been written. The two are one where nothing
  -- is pending.
  pub record Writes (s : S) (pending : Bool) (kept written : Tree) : Type 0 where
    pub ready : IsReady (view s)
    pub settled : pending ≡ false → ((view s).trees ≡ (view s).committed) × (written ≡ kept)
    pub lists : ListsTable (view s).trees
    pub holds : Holds (view s).trees written
    pub left : (db : Trees) → recovers s db → ListsTable db × Holds db kept

  -- each crash leaves a file of this table that holds one of the two
  pub record MayHold (s : S) (before after : Tree) : Type 0 where
    pub numbered : IsTrue (view s).is_numbered
    pub left : (db : Trees) → recovers s db → ListsTable db × (Holds db before ⊎ Holds db after)

  -- The same, of a store that may have been shut by a failure as it carried its log into the database file: each outcome of a crash that it
  -- names is a file of this table that holds one of the two.
  pub record MayLeave (s : S) (before after : Tree) : Type 0 where
    pub numbered : IsTrue (view s).is_open → IsTrue (view s).is_numbered
    pub left : (db : Trees) → recovers s db → ListsTable db × (Holds db before ⊎ Holds db after)

  -- what keeps a tree has written it
  pub keeps_writes : (s : S) (pending : Bool) (tree : Tree) → Keeps s tree → Writes s pending tree tree
  keeps_writes s pending tree keeps = record {
    ready = keeps.ready;
    settled = λ none. (keeps.settled, refl);
    lists = keeps.lists;
    holds = keeps.holds;
    left = keeps.left;
  }

  -- a store that keeps a tree holds one of two, if the tree is the first or the second
  pub may_hold_first : (s : S) (before after : Tree) → Keeps s before → MayHold s before after
  may_hold_first s before after keeps = record {
    numbered = keeps.ready.numbered;
    left = λ db there. let held = keeps.left db there in (held.0, inl held.1);
  }

  pub may_hold_second : (s : S) (before after : Tree) → Keeps s after → MayHold s before after
  may_hold_second s before after keeps = record {
    numbered = keeps.ready.numbered;
    left = λ db there. let held = keeps.left db there in (held.0, inr held.1);
  }

  -- whatever has been written, it holds what is kept
  pub may_hold_kept : (s : S) (pending : Bool) (kept written : Tree) → Writes s pending kept written → MayHold s kept kept
  may_hold_kept s pending kept written writes = record {
    numbered = writes.ready.numbered;
    left = λ db there. let held = writes.left db there in (held.0, inl held.1);
  }

  -- one that holds a tree holds it or another
  pub may_hold_either : (s : S) (before after : Tree) → MayHold s before before → MayHold s before after
  may_hold_either s before after may = record {
    numbered = may.numbered;
    left = λ db there. let held = may.left db there in (held.0, once held.1);
  }

  -- what holds one of two leaves one of them
  pub may_leave_held : (s : S) (before after : Tree) → MayHold s before after → MayLeave s before after
  may_leave_held s before after may = record { numbered = λ _. may.numbered; left = may.left }

  -- the same of what a store leaves
  pub may_leave_first : (s : S) (before after : Tree) → Keeps s before → MayLeave s before after
  may_leave_first s before after keeps = may_leave_held s before after (may_hold_first s before after keeps)

  pub may_leave_second : (s : S) (before after : Tree) → Keeps s after → MayLeave s before after
  may_leave_second s before after keeps = may_leave_held s before after (may_hold_second s before after keeps)

  pub may_leave_kept : (s : S) (pending : Bool) (kept written : Tree) → Writes s pending kept written → MayLeave s kept kept
  may_leave_kept s pending kept written writes = may_leave_held s kept kept (may_hold_kept s pending kept written writes)

  pub may_leave_either : (s : S) (before after : Tree) → MayLeave s before before → MayLeave s before after
  may_leave_either s before after may = record {
    numbered = may.numbered;
    left = λ db there. let held = may.left db there in (held.0, once held.1);
  }
