-- What the calls of a store make of the tree that it holds.
use Rattle.std.proofs.Common.{◌≡◌, ◌≤◌, ◌↔◌, ℕ, Bool, true, false, cond, List, [], ◌∷◌, ◌++◌, map, length, Some, None, IsTrue, refl, sym, subst, ap, ◌∙◌, arith}
use Rattle.std.specs.declared.cmp.Ordering.TheVariants.{Equal}
use Rattle.std.specs.Ordering.{is_eq, is_lt}
use Rattle.std.specs.Option.{unwrap_or}
use Rattle.std.specs.Cmp.{IsTotalOrder, tied_itself}
use Rattle.std.specs.FinMap as finmap
use Rattle.std.specs.FinMap.{IsAntisymmetric}
use Rattle.sqlite_value.specs.Order.{Row, column}
use Rattle.sqlite_value.specs.Keys.{plain, prefix_cmp}
use Rattle.sqlite_value.specs.declared.value.Value.TheVariants.{Text}
use Rattle.sqlite_trees.specs.Tree.{order_of, sought, from_key, insert_entry, remove_entry, IsIndex}
use Rattle.sqlite_trees.specs.View.{View, doubt, IsClean, SetsTree, Advances, with_cursor, IsShaped, IsOrdered}
use Rattle.sqlite_trees.specs.declared.store.Direction.TheVariants.{Forward}
use Rattle.osc_model.specs.{path_cmp}
use Rattle.osc_model.specs.Tree.{Tree}
use Rattle.osc_model.specs.declared.resource.Resource.{Resource}
use Rattle.osc_store.specs.{key_of, row_of, rows_of, Holds, HasTable}
use Rattle.osc_store.specs.Inner.Loading.{Reads}
use Rattle.osc_store.specs.Inner.Writing.{Finds}
use Rattle.osc_store.proofs.RowLemmas.{rows_put, row_inserted, row_removed, removed_already, written_over, found_at, other_at, none_at}

pub clean_before : (a b : View) → doubt a.is_clean ≤ doubt b.is_clean → IsClean b → IsClean a
clean_before a b falls clean = omega arith

same_some : {A : Type 0} (d x y : A) → Some x ≡ Some y → x ≡ y
same_some d x y e = ap (λ o. unwrap_or o d) e

module _ (total : IsTotalOrder path_cmp) (exact : IsAntisymmetric path_cmp) where
  gone : (tree : Tree) (k : List ℕ) → finmap.get (finmap.remove tree k) k ≡ None
  gone tree k = finmap.get-remove total tree k k ∙ ap (λ o. cond (is_eq o) None (finmap.get tree k)) (tied_itself total k)

  pub row_added : (old new : View) (tree : Tree) (k : List ℕ) (v : Resource) (row : Row) → HasTable old → row ≡ row_of (k, v)
      → Holds old.trees (finmap.remove tree k) → SetsTree old new 0 (insert_entry (order_of (old.shape 0)) row)
      → Holds new.trees (finmap.insert tree k v)
  row_added old new tree k v row table is holds sets =
      ap (λ (w : View). w.trees 0) sets.is
      ∙ ap (λ s. insert_entry (order_of s) row (old.trees 0)) table.0
      ∙ ap (λ r. insert_entry plain r (old.trees 0)) is
      ∙ ap (insert_entry plain (row_of (k, v))) holds
      ∙ row_inserted total exact (finmap.remove tree k) k v (gone tree k)
      ∙ ap rows_of (written_over total exact tree k v)

  pub row_forgotten : (old mid new : View) (tree : Tree) (k : List ℕ) (row : Row) → HasTable old → mid ≡ record old { cursors = mid.cursors }
      → Holds old.trees tree → Finds tree k row true → SetsTree mid new 0 (remove_entry (order_of (mid.shape 0)) row)
      → Holds new.trees (finmap.remove tree k)
  row_forgotten old mid new tree k row table same holds found sets =
      ap (λ (w : View). w.trees 0) sets.is
      ∙ ap (λ (w : View). remove_entry (order_of (w.shape 0)) row (w.trees 0)) same
      ∙ ap (λ s. remove_entry (order_of s) row (old.trees 0)) table.0
      ∙ ap (λ r. remove_entry plain r (old.trees 0)) found.2
      ∙ ap (remove_entry plain (row_of (k, found.0))) holds
      ∙ row_removed total exact tree k found.0 found.1

  pub row_missed : (old mid : View) (tree : Tree) (k : List ℕ) (row : Row) → mid ≡ record old { cursors = mid.cursors }
      → Holds old.trees tree → Finds tree k row false → Holds mid.trees (finmap.remove tree k)
  row_missed old mid tree k row same holds missed =
      ap (λ (w : View). w.trees 0) same ∙ holds ∙ ap rows_of (sym (removed_already total exact tree k missed))

  from_path : (v0 v1 : View) (tree : Tree) (k : List ℕ) (key : Row) (rows : List Row) → HasTable v0 → key ≡ key_of k → Holds v0.trees tree
      → v1 ≡ with_cursor v0 0 (sought (order_of (v0.shape 0)) Forward key (v0.trees 0)) → v1.cursors 0 ≡ Some rows
      → from_key plain (key_of k) (rows_of tree) ≡ rows
  from_path v0 v1 tree k key rows table is holds sought_is at =
      sym (
      same_some [] _ _ (sym at ∙ ap (λ (w : View). w.cursors 0) sought_is)
      ∙ ap (λ s. from_key (order_of s) key (v0.trees 0)) table.0
      ∙ ap (λ r. from_key plain r (v0.trees 0)) is
      ∙ ap (from_key plain (key_of k)) holds)

  pub row_found : (v0 v1 v2 : View) (tree : Tree) (k : List ℕ) (key row : Row) (b : Bool) → HasTable v0 → key ≡ key_of k → Holds v0.trees tree
      → v1 ≡ with_cursor v0 0 (sought (order_of (v0.shape 0)) Forward key (v0.trees 0)) → Advances v1 v2 0 row true
      → (IsTrue b ↔ (column row 0 ≡ Text k)) → Finds tree k row b
  row_found v0 v1 v2 tree k key row true table is holds sought_is moves at =
      found_at total exact tree k row moves.0 (from_path v0 v1 tree k key (row ∷ moves.0) table is holds sought_is moves.1) (at.0 refl)
  row_found v0 v1 v2 tree k key row false table is holds sought_is moves at =
      other_at total exact tree k row moves.0 (from_path v0 v1 tree k key (row ∷ moves.0) table is holds sought_is moves.1) (λ t. absurd (let h = at.1 t in cc))

  pub row_not_found : (v0 v1 v2 : View) (tree : Tree) (k : List ℕ) (key row : Row) → HasTable v0 → key ≡ key_of k → Holds v0.trees tree
      → v1 ≡ with_cursor v0 0 (sought (order_of (v0.shape 0)) Forward key (v0.trees 0)) → Advances v1 v2 0 row false
      → Finds tree k row false
  row_not_found v0 v1 v2 tree k key row table is holds sought_is moves =
      none_at total exact tree k (from_path v0 v1 tree k key [] table is holds sought_is moves.0)

  -- one more row is read
  pub row_taken : (old new : View) (tree : Tree) (k : List ℕ) (v : Resource) (row : Row) → HasTable old → IsOrdered old.shape old.trees → Reads old tree → Advances old new 0 row true
      → row ≡ row_of (k, v) → finmap.get tree k ≡ None → Reads new (finmap.insert tree k v)
  row_taken old new tree k v row table rises reads moves is absent =
      let ahead : reads.left ≡ row_of (k, v) ∷ moves.0 = same_some [] _ _ (sym reads.ahead ∙ moves.1) ∙ ap (λ r. r ∷ moves.0) is in
      let rows : old.trees 0 ≡ rows_of tree ++ row_of (k, v) ∷ moves.0 = reads.rows ∙ ap (λ rs. rows_of tree ++ rs) ahead in
      let index : IsIndex plain (rows_of tree ++ row_of (k, v) ∷ moves.0) = subst (IsIndex plain) rows (subst (λ s. IsShaped s (old.trees 0)) table.0 (rises 0)) in
      record {
        left = moves.0;
        ahead = ap (λ (w : View). w.cursors 0) moves.2;
        rows = ap (λ (w : View). w.trees 0) moves.2 ∙ rows ∙ regrouped (rows_of tree) (row_of (k, v)) moves.0 ∙ ap (λ rs. rs ++ moves.0) (sym (rows_put total exact tree k v moves.0 index absent));
      }
    where
      regrouped : (xs : List Row) (y : Row) (zs : List Row) → xs ++ y ∷ zs ≡ (xs ++ y ∷ []) ++ zs
      regrouped [] y zs = refl
      regrouped (x ∷ xs) y zs = ap (λ rs. x ∷ rs) (regrouped xs y zs)

-- with no key, a cursor gives all rows
from_start : (rows : List Row) → from_key plain [] rows ≡ rows
from_start [] = refl
from_start (e ∷ rows) = ap (λ o. cond (is_lt o) (from_key plain [] rows) (e ∷ rows)) (no_key e)
  where
    no_key : (r : Row) → prefix_cmp plain r [] ≡ Equal
    no_key [] = refl
    no_key (v ∷ r) = refl

none_of_length : (es : List (List ℕ × Resource)) → length es ≡ 0 → es ≡ []
none_of_length [] e = refl
none_of_length (x ∷ es) e = absurd (omega arith)

pub no_rows : rows_of finmap.empty ≡ []
no_rows = ap (map row_of) (none_of_length (finmap.entries finmap.empty) (sym (finmap.len-entries finmap.empty) ∙ finmap.len-empty path_cmp Resource))

pub row_begun : (old new : View) (key : Row) → HasTable old → key ≡ [] → new ≡ with_cursor old 0 (sought (order_of (old.shape 0)) Forward key (old.trees 0)) → Reads new finmap.empty
row_begun old new key table is moved = record {
  left = from_key plain [] (old.trees 0);
  ahead = ap (λ (w : View). w.cursors 0) moved ∙ ap (λ s. Some (from_key (order_of s) key (old.trees 0))) table.0 ∙ ap (λ r. Some (from_key plain r (old.trees 0))) is;
  rows = ap (λ (w : View). w.trees 0) moved ∙ sym (from_start (old.trees 0)) ∙ ap (λ rs. rs ++ from_key plain [] (old.trees 0)) (sym no_rows);
}
