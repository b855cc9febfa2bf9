-- What was opened of a store's files is so of what keeps their changes.
use Rattle.std.proofs.Common.{◌≡◌, ◌≤◌, Result, Ok, Err, IfOk, subst, sym, arith, inl, inr}
use Rattle.std.specs.Bool.{IsTrue}
use Rattle.sqlite_trees.proofs.Doubt.{clean_of}
use Rattle.sqlite_trees.specs.Tree.{Trees}
use Rattle.sqlite_trees.specs.View.{View, IsClean, doubt}
use Rattle.sqlite_wal.specs.Recovery.{Image}
use Rattle.osc_model.specs.Tree.{Tree}
use Rattle.osc_server.specs.State.{State as Server}
use Rattle.osc_store.specs.{FindsTree, Keeps, MayLeave}
use Rattle.osc_programs.specs.{IsOpened}

pub opened_by : {S : Type 0} (view : S → View) (recovers : S → Trees → Type 0) (image : Image) (it store : S) (tree : Tree) → it ≡ store
    → (IsTrue (view store).is_clean → FindsTree image tree) → (IsTrue (view store).is_clean → Keeps view recovers store tree)
    → IsOpened view recovers image it tree
opened_by {S} view recovers image it store tree same found kept =
    subst (λ (s : S). IsOpened view recovers image s tree) (sym same)
    (record { found = λ clean. found (clean_of (view store).is_clean clean); kept = λ clean. kept (clean_of (view store).is_clean clean) })

-- and of a store that keeps what it kept
pub opened_on : {S : Type 0} (view : S → View) (recovers : S → Trees → Type 0) (image : Image) (old new : S) (tree : Tree) → IsOpened view recovers image old tree
    → doubt (view old).is_clean ≤ doubt (view new).is_clean → ((tree : Tree) → Keeps view recovers old tree → IsClean (view new) → Keeps view recovers new tree)
    → IsOpened view recovers image new tree
opened_on view recovers image old new tree was falls kept = record {
  found = λ clean. was.found (omega (arith, falls, clean));
  kept = λ clean. kept tree (was.kept (omega (arith, falls, clean))) clean;
}

-- the same store under another name
pub opened_same : {S : Type 0} (view : S → View) (recovers : S → Trees → Type 0) (image : Image) (a b : S) (tree : Tree) → b ≡ a → IsOpened view recovers image a tree → IsOpened view recovers image b tree
opened_same {S} view recovers image a b tree same it = subst (λ (s : S). IsOpened view recovers image s tree) (sym same) it

-- what leaves the tree after a change leaves that before it or that after it
pub leaves_after : {S : Type 0} (view : S → View) (recovers : S → Trees → Type 0) (s : S) (before after : Tree) → MayLeave view recovers s after after → MayLeave view recovers s before after
leaves_after view recovers s before after may = record {
  numbered = may.numbered;
  left = λ db there. let held = may.left db there in (held.0, elim held.1 [ inl a ↦ inr a | inr b ↦ inr b ]);
}

-- so a server with its tree is kept
pub opened_keeps : {K S E : Type 0} (view : S → View) (recovers : S → Trees → Type 0) (image : Image) (store : K → S) (result : Result (K × Tree) E)
    → IfOk result (λ opened. IsOpened view recovers image (store opened.0) opened.1)
    → IfOk result (λ opened. (server : Server) → server.tree ≡ opened.1 → IsClean (view (store opened.0)) → Keeps view recovers (store opened.0) server.tree)
opened_keeps view recovers image store (Ok opened) it = λ server same clean. subst (Keeps view recovers (store opened.0)) (sym same) (it.kept clean)
opened_keeps view recovers image store (Err error) it = tt
