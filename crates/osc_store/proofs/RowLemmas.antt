-- What a change of one row makes of the rows of a tree.
use Rattle.std.proofs.Common.{◌≡◌, ℕ, Bool, true, false, cond, not, T, ◌&&◌, List, [], ◌∷◌, ◌++◌, map, Option, Some, None, refl, sym, subst, ap, ◌∙◌}
use Rattle.std.specs.declared.cmp.Ordering.{Ordering}
use Rattle.std.specs.declared.cmp.Ordering.TheVariants.{Less, Equal, Greater}
use Rattle.std.specs.Ordering.{is_lt, is_eq, match_ordering, ordering_then, ordering_reverse, eq_by_cmp}
use Rattle.std.specs.Option.{unwrap_or}
use Rattle.std.specs.Cmp.{IsTotalOrder, eq_by_cmp_equiv, tied_itself}
use Rattle.std.specs.List.{AllByRecursion}
use Rattle.std.specs.FinMap as finmap
use Rattle.std.specs.FinMap.{IsAntisymmetric, find, put, is_sorted}
use Rattle.std.specs.FinMap.Entries.{by_order, where_key, below_all, is_sorted-where_key, find-where_key, same_entries}
use Rattle.sqlite_value.specs.Order.{Row, column, row_cmp}
use Rattle.sqlite_value.specs.Keys.{plain, entry_cmp, prefix_cmp}
use Rattle.sqlite_value.specs.declared.value.Value.{Value}
use Rattle.sqlite_value.specs.declared.value.Value.TheVariants.{Text, Blob}
use Rattle.sqlite_value.proofs.KeyLemmas.{entry_cmp-plain, entry_cmp_total}
use Rattle.sqlite_value.proofs.OrderLemmas.{value_cmp-Text}
use Rattle.sqlite_trees.specs.Tree.{insert_entry, remove_entry, from_key, IsIndex}
use Rattle.sqlite_trees.proofs.TreeLemmas.{prefix_cmp-one}
use Rattle.osc_model.specs.{path_cmp}
use Rattle.osc_model.specs.Tree.{Tree}
use Rattle.osc_model.specs.declared.resource.Resource.{Resource}
use Rattle.osc_store.specs.{key_of, row_of, format_value, rows_of}

abbrev pub Entry : Type 0
Entry = List ℕ × Resource

-- the columns after the first
abbrev rest_of : Entry → Row
rest_of e = format_value e.1.format ∷ Blob e.1.payload ∷ []

abbrev rest_cmp : Entry → Entry → Ordering
rest_cmp e f = row_cmp (rest_of e) (rest_of f)

entries_cmp : (e f : Entry) → entry_cmp plain (row_of e) (row_of f) ≡ ordering_then (path_cmp e.0 f.0) (rest_cmp e f)
entries_cmp e f = entry_cmp-plain (row_of e) (row_of f) ∙ ap (λ o. ordering_then o (rest_cmp e f)) (value_cmp-Text e.0 f.0)

key_cmp : (e : Entry) (k : List ℕ) → prefix_cmp plain (row_of e) (key_of k) ≡ path_cmp e.0 k
key_cmp e k = prefix_cmp-one (Text e.0) (rest_of e) (Text k) ∙ value_cmp-Text e.0 k

not_None : {A : Type 0} (x : A) → Some x ≡ None → ⊥
not_None x e = cc

module _ (total : IsTotalOrder path_cmp) (exact : IsAntisymmetric path_cmp) where
  turned : (e : Entry) (k : List ℕ) (v : Resource) → entry_cmp plain (row_of e) (row_of (k, v)) ≡ ordering_then (ordering_reverse (path_cmp k e.0)) (rest_cmp e (k, v))
  turned e k v = entries_cmp e (k, v) ∙ ap (λ o. ordering_then o (rest_cmp e (k, v))) (total.antisymm e.0 k)

  pub inserted : (k : List ℕ) (v : Resource) (es : List Entry) → find path_cmp k es ≡ None
      → insert_entry plain (row_of (k, v)) (map row_of es) ≡ map row_of (put path_cmp k v es)
  inserted k v [] h = refl
  inserted k v (e ∷ es) h =
      let rows = map row_of es in
      let more = insert_entry plain (row_of (k, v)) rows in
      ap (λ o. match_ordering o (row_of e ∷ more) (row_of e ∷ rows) (row_of (k, v) ∷ row_of e ∷ rows)) (turned e k v)
      ∙ elim (path_cmp k e.0) as (λ o. cond (is_eq o) (Some e.1) (find path_cmp k es) ≡ None
      → match_ordering (ordering_then (ordering_reverse o) (rest_cmp e (k, v))) (row_of e ∷ more) (row_of e ∷ rows) (row_of (k, v) ∷ row_of e ∷ rows)
      ≡ map row_of (by_order o ((k, v) ∷ e ∷ es) ((e.0, v) ∷ es) (e ∷ put path_cmp k v es))) [
        | Less ↦ λ g. refl
        | Equal ↦ λ g. absurd (not_None e.1 g)
        | Greater ↦ λ g. ap (λ rs. row_of e ∷ rs) (inserted k v es g)
      ] h

  -- the entries with another path
  abbrev pub others : List ℕ → List Entry → List Entry
  others k es = where_key path_cmp (λ x. not (eq_by_cmp path_cmp k x)) es

  untouched : (k : List ℕ) (v : Resource) (es : List Entry) → find path_cmp k es ≡ None
      → remove_entry plain (row_of (k, v)) (map row_of es) ≡ map row_of (others k es)
  untouched k v [] h = refl
  untouched k v (e ∷ es) h =
      let less = remove_entry plain (row_of (k, v)) (map row_of es) in
      ap (λ o. cond (not (is_eq o)) (row_of e ∷ less) less) (turned e k v)
      ∙ elim (path_cmp k e.0) as (λ o. cond (is_eq o) (Some e.1) (find path_cmp k es) ≡ None
      → cond (not (is_eq (ordering_then (ordering_reverse o) (rest_cmp e (k, v))))) (row_of e ∷ less) less
      ≡ map row_of (cond (not (is_eq o)) (e ∷ others k es) (others k es))) [
        | Less ↦ λ g. ap (λ rs. row_of e ∷ rs) (untouched k v es g)
        | Equal ↦ λ g. absurd (not_None e.1 g)
        | Greater ↦ λ g. ap (λ rs. row_of e ∷ rs) (untouched k v es g)
      ] h

  below_is_missing : (k : List ℕ) (es : List Entry) → T (below_all path_cmp k es) → find path_cmp k es ≡ None
  below_is_missing k [] h = refl
  below_is_missing k (e ∷ es) h = elim (path_cmp k e.0) as (λ o. T (is_lt o && below_all path_cmp k es) → cond (is_eq o) (Some e.1) (find path_cmp k es) ≡ None) [
    | Less ↦ λ g. below_is_missing k es g
    | Equal ↦ λ g. absurd g
    | Greater ↦ λ g. absurd g
  ] h

  both_of : (a b : Bool) → T (a && b) → T a × T b
  both_of true b h = (tt, h)
  both_of false b h = absurd h

  same_some : {A : Type 0} (x y : A) → Some x ≡ Some y → x ≡ y
  same_some x y e = ap (λ o. unwrap_or o x) e

  -- the row of the entry itself goes
  itself : (e : Entry) → entry_cmp plain (row_of e) (row_of e) ≡ Equal
  itself e = tied_itself (entry_cmp_total plain) (row_of e)

  pub removed : (k : List ℕ) (v : Resource) (es : List Entry) → T (is_sorted path_cmp es) → find path_cmp k es ≡ Some v
      → remove_entry plain (row_of (k, v)) (map row_of es) ≡ map row_of (others k es)
  removed k v [] s h = absurd (not_None v (sym h))
  removed k v (e ∷ es) s h =
      let rising = both_of (below_all path_cmp e.0 es) (is_sorted path_cmp es) s in
      let less = remove_entry plain (row_of (k, v)) (map row_of es) in
      elim (path_cmp k e.0) as (λ o. path_cmp k e.0 ≡ o → cond (is_eq o) (Some e.1) (find path_cmp k es) ≡ Some v
      → remove_entry plain (row_of (k, v)) (row_of e ∷ map row_of es) ≡ map row_of (cond (not (is_eq o)) (e ∷ others k es) (others k es))) [
        | Less ↦ λ p g. ap (λ o. cond (not (is_eq o)) (row_of e ∷ less) less) (turned e k v ∙ ap (λ o. ordering_then (ordering_reverse o) (rest_cmp e (k, v))) p) ∙ ap (λ rs. row_of e ∷ rs) (removed k v es rising.1 g)
        | Equal ↦ λ p g.
            let path : k ≡ e.0 = exact k e.0 p in
            let value : e.1 ≡ v = same_some e.1 v g in
            let same : entry_cmp plain (row_of e) (row_of (k, v)) ≡ Equal = ap (λ (x : Entry). entry_cmp plain (row_of e) (row_of x)) (λ i. (path i, sym value i)) ∙ itself e in
            ap (λ o. cond (not (is_eq o)) (row_of e ∷ less) less) same ∙ untouched k v es (below_is_missing k es (subst (λ x. T (below_all path_cmp x es)) (sym path) rising.0))
        | Greater ↦ λ p g. ap (λ o. cond (not (is_eq o)) (row_of e ∷ less) less) (turned e k v ∙ ap (λ o. ordering_then (ordering_reverse o) (rest_cmp e (k, v))) p) ∙ ap (λ rs. row_of e ∷ rs) (removed k v es rising.1 g)
      ] refl h

  -- a row in order is at the path's place, if the path has something
  abbrev text_of : Value → List ℕ
  text_of (Text t) = t
  text_of _ = []

  abbrev pub sought_at : List ℕ → List Entry → List Row
  sought_at k es = from_key plain (key_of k) (map row_of es)

  next_from : (k : List ℕ) (e : Entry) (es : List Entry) (o : Ordering) → path_cmp e.0 k ≡ o
      → sought_at k (e ∷ es) ≡ cond (is_lt o) (sought_at k es) (row_of e ∷ map row_of es)
  next_from k e es o p = ap (λ o. cond (is_lt o) (from_key plain (key_of k) (map row_of es)) (row_of e ∷ map row_of es)) (key_cmp e k ∙ p)

  -- the first row from the path on is the path's own, or the path has nothing
  pub data Stands (k : List ℕ) (es : List Entry) (rows : List Row) : Type 0 where
    Own : (v : Resource) (left : List Row) → find path_cmp k es ≡ Some v → rows ≡ row_of (k, v) ∷ left → Stands k es rows
    Other : (e : Entry) (left : List Row) → find path_cmp k es ≡ None → rows ≡ row_of e ∷ left → (e.0 ≡ k → ⊥) → Stands k es rows
    Nothing : find path_cmp k es ≡ None → rows ≡ [] → Stands k es rows

  below_less : (a b : List ℕ) (es : List Entry) → path_cmp a b ≡ Less → T (below_all path_cmp b es) → T (below_all path_cmp a es)
  below_less a b [] p h = tt
  below_less a b (e ∷ es) p h =
      let hs = both_of (is_lt (path_cmp b e.0)) (below_all path_cmp b es) h in
      elim (path_cmp b e.0) as (λ o. path_cmp b e.0 ≡ o → T (is_lt o) → T (is_lt (path_cmp a e.0) && below_all path_cmp a es)) [
        | Less ↦ λ q g. subst (λ o. T (is_lt o && below_all path_cmp a es)) (sym (total.trans a b e.0 p q)) (below_less a b es p hs.1)
        | Equal ↦ λ q g. absurd g
        | Greater ↦ λ q g. absurd g
      ] refl hs.0

  pub stands : (k : List ℕ) (es : List Entry) → T (is_sorted path_cmp es) → Stands k es (sought_at k es)
  stands k [] s = Nothing refl refl
  stands k (e ∷ es) s =
      let rising = both_of (below_all path_cmp e.0 es) (is_sorted path_cmp es) s in
      elim (path_cmp k e.0) as (λ o. path_cmp k e.0 ≡ o → Stands k (e ∷ es) (sought_at k (e ∷ es))) [
        | Less ↦ λ p.
            let found : find path_cmp k (e ∷ es) ≡ None = below_is_missing k (e ∷ es) (subst (λ o. T (is_lt o && below_all path_cmp k es)) (sym p) (below_less k e.0 es p rising.0)) in
            Other e (map row_of es) found (next_from k e es Greater (total.antisymm e.0 k ∙ ap ordering_reverse p)) (λ same. absurd (let t = tied_itself total k in let q : path_cmp k k ≡ Less = ap (path_cmp k) (sym same) ∙ p in let r = sym t ∙ q in cc))
        | Equal ↦ λ p.
            let path : k ≡ e.0 = exact k e.0 p in
            Own e.1 (map row_of es) (ap (λ o. cond (is_eq o) (Some e.1) (find path_cmp k es)) p)
            (next_from k e es Equal (total.antisymm e.0 k ∙ ap ordering_reverse p) ∙ ap (λ x. row_of (x, e.1) ∷ map row_of es) (sym path))
        | Greater ↦ λ p.
            let found : find path_cmp k (e ∷ es) ≡ find path_cmp k es = ap (λ o. cond (is_eq o) (Some e.1) (find path_cmp k es)) p in
            let moved : sought_at k (e ∷ es) ≡ sought_at k es = next_from k e es Less (total.antisymm e.0 k ∙ ap ordering_reverse p) in
            further found moved (stands k es rising.1)
      ] refl
    where
      further : find path_cmp k (e ∷ es) ≡ find path_cmp k es → sought_at k (e ∷ es) ≡ sought_at k es → Stands k es (sought_at k es) → Stands k (e ∷ es) (sought_at k (e ∷ es))
      further f m (Own v left a b) = Own v left (f ∙ a) (m ∙ b)
      further f m (Other x left a b c) = Other x left (f ∙ a) (m ∙ b) c
      further f m (Nothing a b) = Nothing (f ∙ a) (m ∙ b)

  -- ---- the same of trees

  turned_off : (a b : Bool) (x : Option Resource) → a ≡ b → cond b None x ≡ cond (not a) x None
  turned_off true true x h = refl
  turned_off true false x h = absurd (cc)
  turned_off false true x h = absurd (cc)
  turned_off false false x h = refl

  same_test : (k q x : List ℕ) → path_cmp q x ≡ Equal → not (eq_by_cmp path_cmp k x) ≡ not (eq_by_cmp path_cmp k q)
  same_test k q x h = ap (λ y. not (eq_by_cmp path_cmp k y)) (sym (exact q x h))

  entries_remove : (tree : Tree) (k : List ℕ) → finmap.entries (finmap.remove tree k) ≡ others k (finmap.entries tree)
  entries_remove tree k =
      same_entries path_cmp total exact (finmap.entries (finmap.remove tree k)) (others k (finmap.entries tree))
      (finmap.entries_sorted (finmap.remove tree k))
      (is_sorted-where_key path_cmp (λ x. not (eq_by_cmp path_cmp k x)) (finmap.entries tree) (finmap.entries_sorted tree))
      (λ q. sym (finmap.get-entries (finmap.remove tree k) q) ∙ finmap.get-remove total tree k q
      ∙ ap (λ x. cond (eq_by_cmp path_cmp q k) None x) (finmap.get-entries tree q)
      ∙ turned_off (eq_by_cmp path_cmp k q) (eq_by_cmp path_cmp q k) (find path_cmp q (finmap.entries tree)) ((eq_by_cmp_equiv total).symm k q)
      ∙ sym (find-where_key path_cmp (λ x. not (eq_by_cmp path_cmp k x)) q (same_test k q) (finmap.entries tree)))

  pub row_removed : (tree : Tree) (k : List ℕ) (v : Resource) → finmap.get tree k ≡ Some v
      → remove_entry plain (row_of (k, v)) (rows_of tree) ≡ rows_of (finmap.remove tree k)
  row_removed tree k v h =
      removed k v (finmap.entries tree) (finmap.entries_sorted tree) (sym (finmap.get-entries tree k) ∙ h) ∙ ap (map row_of) (sym (entries_remove tree k))

  pub row_inserted : (tree : Tree) (k : List ℕ) (v : Resource) → finmap.get tree k ≡ None
      → insert_entry plain (row_of (k, v)) (rows_of tree) ≡ rows_of (finmap.insert tree k v)
  row_inserted tree k v h =
      inserted k v (finmap.entries tree) (sym (finmap.get-entries tree k) ∙ h) ∙ ap (map row_of) (sym (finmap.entries-insert total tree k v))

  -- what isn't there need not go
  pub removed_already : (tree : Tree) (k : List ℕ) → finmap.get tree k ≡ None → finmap.remove tree k ≡ tree
  removed_already tree k h = finmap.same_map total exact _ _ (λ q. finmap.get-remove total tree k q ∙ kept q)
    where
      kept : (q : List ℕ) → cond (eq_by_cmp path_cmp q k) None (finmap.get tree q) ≡ finmap.get tree q
      kept q = elim (path_cmp q k) as (λ o. path_cmp q k ≡ o → cond (is_eq o) None (finmap.get tree q) ≡ finmap.get tree q) [
        | Less ↦ λ p. refl
        | Equal ↦ λ p. sym h ∙ ap (finmap.get tree) (sym (exact q k p))
        | Greater ↦ λ p. refl
      ] refl

  -- written over, as if it had not been there
  pub written_over : (tree : Tree) (k : List ℕ) (v : Resource) → finmap.insert (finmap.remove tree k) k v ≡ finmap.insert tree k v
  written_over tree k v = finmap.same_map total exact _ _ (λ q.
      finmap.get-insert total (finmap.remove tree k) k v q ∙ ap (cond (eq_by_cmp path_cmp q k) (Some v)) (finmap.get-remove total tree k q)
      ∙ twice (eq_by_cmp path_cmp q k) (finmap.get tree q) ∙ sym (finmap.get-insert total tree k v q))
    where
      twice : (b : Bool) (x : Option Resource) → cond b (Some v) (cond b None x) ≡ cond b (Some v) x
      twice true x = refl
      twice false x = refl

  -- ---- what a cursor gives from the path on

  -- its first row is the path's
  pub found_at : (tree : Tree) (k : List ℕ) (row : Row) (left : List Row) → from_key plain (key_of k) (rows_of tree) ≡ row ∷ left → column row 0 ≡ Text k
      → (v : Resource) × (finmap.get tree k ≡ Some v) × (row ≡ row_of (k, v))
  found_at tree k row left is at = go (stands k (finmap.entries tree) (finmap.entries_sorted tree))
    where
      head : Row → List Row → Row
      head d [] = d
      head d (r ∷ rs) = r

      go : Stands k (finmap.entries tree) (sought_at k (finmap.entries tree)) → (v : Resource) × (finmap.get tree k ≡ Some v) × (row ≡ row_of (k, v))
      go (Own v rest f e) = (v, finmap.get-entries tree k ∙ f, ap (head row) (sym is ∙ e))
      go (Other x rest f e apart) = absurd (apart (ap text_of (sym (ap (λ r. column r 0) (ap (head row) (sym is ∙ e))) ∙ at)))
      go (Nothing f e) = absurd (let h = sym is ∙ e in cc)

  pub other_at : (tree : Tree) (k : List ℕ) (row : Row) (left : List Row) → from_key plain (key_of k) (rows_of tree) ≡ row ∷ left → (column row 0 ≡ Text k → ⊥)
      → finmap.get tree k ≡ None
  other_at tree k row left is apart = go (stands k (finmap.entries tree) (finmap.entries_sorted tree))
    where
      head : Row → List Row → Row
      head d [] = d
      head d (r ∷ rs) = r

      go : Stands k (finmap.entries tree) (sought_at k (finmap.entries tree)) → finmap.get tree k ≡ None
      go (Own v rest f e) = absurd (apart (ap (λ r. column r 0) (ap (head row) (sym is ∙ e))))
      go (Other x rest f e other) = finmap.get-entries tree k ∙ f
      go (Nothing f e) = finmap.get-entries tree k ∙ f

  pub none_at : (tree : Tree) (k : List ℕ) → from_key plain (key_of k) (rows_of tree) ≡ [] → finmap.get tree k ≡ None
  none_at tree k is = go (stands k (finmap.entries tree) (finmap.entries_sorted tree))
    where
      go : Stands k (finmap.entries tree) (sought_at k (finmap.entries tree)) → finmap.get tree k ≡ None
      go (Own v rest f e) = absurd (let h = sym is ∙ e in cc)
      go (Other x rest f e other) = finmap.get-entries tree k ∙ f
      go (Nothing f e) = finmap.get-entries tree k ∙ f

  -- ---- rows in order, read one after another

  -- an entry above all others is last
  last_put : (k : List ℕ) (v : Resource) (es : List Entry) → AllByRecursion (λ e. entry_cmp plain (row_of e) (row_of (k, v)) ≡ Less) es → find path_cmp k es ≡ None
      → put path_cmp k v es ≡ es ++ (k, v) ∷ []
  last_put k v [] below h = refl
  last_put k v (e ∷ es) below h = elim (path_cmp k e.0) as (λ o. ordering_then (ordering_reverse o) (rest_cmp e (k, v)) ≡ Less → cond (is_eq o) (Some e.1) (find path_cmp k es) ≡ None
      → by_order o ((k, v) ∷ e ∷ es) ((e.0, v) ∷ es) (e ∷ put path_cmp k v es) ≡ e ∷ (es ++ (k, v) ∷ [])) [
        | Less ↦ λ l g. absurd (let m = l in cc)
        | Equal ↦ λ l g. absurd (not_None e.1 g)
        | Greater ↦ λ l g. ap (λ (fs : List Entry). e ∷ fs) (last_put k v es below.1 g)
      ] (sym (turned e k v) ∙ below.0) h

  mapped : (es : List Entry) (x : Entry) → map row_of (es ++ x ∷ []) ≡ map row_of es ++ row_of x ∷ []
  mapped [] x = refl
  mapped (e ∷ es) x = ap (λ rs. row_of e ∷ rs) (mapped es x)

  -- in a list in order, what is before a row is below it
  before : (es : List Entry) (x : Entry) (left : List Row) → IsIndex plain (map row_of es ++ row_of x ∷ left) → AllByRecursion (λ e. entry_cmp plain (row_of e) (row_of x) ≡ Less) es
  before [] x left rises = tt
  before (e ∷ es) x left rises = (first (map row_of es) rises.0, before es x left rises.1)
    where
      first : (rows : List Row) → AllByRecursion (λ b. entry_cmp plain (row_of e) b ≡ Less) (rows ++ row_of x ∷ left) → entry_cmp plain (row_of e) (row_of x) ≡ Less
      first [] all = all.0
      first (r ∷ rows) all = first rows all.1

  pub rows_put : (tree : Tree) (k : List ℕ) (v : Resource) (left : List Row) → IsIndex plain (rows_of tree ++ row_of (k, v) ∷ left) → finmap.get tree k ≡ None
      → rows_of (finmap.insert tree k v) ≡ rows_of tree ++ row_of (k, v) ∷ []
  rows_put tree k v left rises h =
      ap (map row_of) (finmap.entries-insert total tree k v ∙ last_put k v (finmap.entries tree) (before (finmap.entries tree) (k, v) left rises) (sym (finmap.get-entries tree k) ∙ h))
      ∙ mapped (finmap.entries tree) (k, v)
