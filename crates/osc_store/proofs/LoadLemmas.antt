-- The next row of a table is that of an entry of the tree that it holds.
use Rattle.std.proofs.Common.{◌≡◌, ◌<◌, ◌+◌, ℕ, pos, Bool, true, false, cond, T, ◌&&◌, List, [], ◌∷◌, ◌++◌, map, length, Option, Some, None, is_some, refl, sym, subst, ap, ◌∙◌, arith, length-append}
use Rattle.std.specs.declared.cmp.Ordering.TheVariants.{Less, Equal, Greater}
use Rattle.std.specs.Ordering.{is_eq, is_lt, ordering_reverse}
use Rattle.std.specs.Option.{unwrap_or}
use Rattle.std.specs.Cmp.{IsTotalOrder, tied_itself}
use Rattle.std.specs.FinMap as finmap
use Rattle.std.specs.FinMap.{find, is_sorted}
use Rattle.std.specs.FinMap.Entries.{below_all}
use Rattle.sqlite_value.specs.Order.{Row, column, bytes}
use Rattle.sqlite_value.specs.declared.value.Value.{Value}
use Rattle.sqlite_value.specs.declared.value.Value.TheVariants.{Null, Int}
use Rattle.sqlite_trees.specs.View.{View, Advances}
use Rattle.osc_model.specs.{path_cmp}
use Rattle.osc_model.specs.Tree.{Tree}
use Rattle.osc_model.specs.declared.resource.Resource.{Resource}
use Rattle.osc_store.specs.{Holds, format_value, row_of, rows_of}
use Rattle.osc_store.specs.Inner.Loading.{Reads}

abbrev pub Entry : Type 0
Entry = List ℕ × Resource

-- ---- a row is of one entry

abbrev natural : Value → ℕ
natural (Int (pos n)) = n
natural _ = 0

abbrev format_in : Value → Option ℕ
format_in Null = None
format_in v = Some (natural v)

abbrev pub entry_in : Row → Entry
entry_in r = (bytes (column r 0), record { format = format_in (column r 1); payload = bytes (column r 2) })

format_back : (f : Option ℕ) → format_in (format_value f) ≡ f
format_back None = refl
format_back (Some n) = refl

pub entry_back : (e : Entry) → entry_in (row_of e) ≡ e
entry_back e = ap (λ (f : Option ℕ). let x : Entry = (e.0, record { format = f; payload = e.1.payload }) in x) (format_back e.1.format)

entries_back : (es : List Entry) → map entry_in (map row_of es) ≡ es
entries_back [] = refl
entries_back (e ∷ es) = ap (λ (x : Entry). x ∷ map entry_in (map row_of es)) (entry_back e) ∙ ap (λ xs. e ∷ xs) (entries_back es)

pub one_entry : (a b : Entry) → row_of a ≡ row_of b → a ≡ b
one_entry a b same = sym (entry_back a) ∙ ap entry_in same ∙ entry_back b

pub one_tree : (a b : Tree) → rows_of a ≡ rows_of b → a ≡ b
one_tree a b same = finmap.same_entries_map a b (sym (entries_back (finmap.entries a)) ∙ ap (map entry_in) same ∙ entries_back (finmap.entries b))

-- ---- the next entry

record Split (xs es : List Entry) (row : Row) : Type 0 where
  entry : Entry
  rest : List Entry
  whole : es ≡ xs ++ entry ∷ rest
  is : row ≡ row_of entry

split : (xs es : List Entry) (row : Row) (left : List Row) → map row_of es ≡ map row_of xs ++ row ∷ left → Split xs es row
split [] [] row left eq = absurd (cc)
split [] (e ∷ es) row left eq = record { entry = e; rest = es; whole = refl; is = (let h : row_of e ≡ row = cc in sym h) }
split (x ∷ xs) [] row left eq = absurd (cc)
split (x ∷ xs) (e ∷ es) row left eq =
    let head : row_of e ≡ row_of x = cc in
    let tail : map row_of es ≡ map row_of xs ++ row ∷ left = cc in
    let s = split xs es row left tail in
    record { entry = s.entry; rest = s.rest; whole = ap (λ (y : Entry). y ∷ es) (one_entry e x head) ∙ ap (λ ys. x ∷ ys) s.whole; is = s.is }

both_of : (a b : Bool) → T (a && b) → T a × T b
both_of true b h = (tt, h)
both_of false b h = absurd h

below_at : (k : List ℕ) (xs : List Entry) (e : Entry) (rest : List Entry) → T (below_all path_cmp k (xs ++ e ∷ rest)) → T (is_lt (path_cmp k e.0))
below_at k [] e rest h = (both_of (is_lt (path_cmp k e.0)) (below_all path_cmp k rest) h).0
below_at k (x ∷ xs) e rest h = below_at k xs e rest (both_of (is_lt (path_cmp k x.0)) (below_all path_cmp k (xs ++ e ∷ rest)) h).1

module _ (total : IsTotalOrder path_cmp) where
  found_last : (xs : List Entry) (e : Entry) (rest : List Entry) → T (is_sorted path_cmp (xs ++ e ∷ rest))
      → (find path_cmp e.0 xs ≡ None) × (find path_cmp e.0 (xs ++ e ∷ rest) ≡ Some e.1)
  found_last [] e rest s = (refl, ap (λ o. cond (is_eq o) (Some e.1) (find path_cmp e.0 rest)) (tied_itself total e.0))
  found_last (x ∷ xs) e rest s =
      let parts = both_of (below_all path_cmp x.0 (xs ++ e ∷ rest)) (is_sorted path_cmp (xs ++ e ∷ rest)) s in
      let below = below_at x.0 xs e rest parts.0 in
      let more = found_last xs e rest parts.1 in
      elim (path_cmp x.0 e.0) as (λ o. path_cmp x.0 e.0 ≡ o → T (is_lt o) → (find path_cmp e.0 (x ∷ xs) ≡ None) × (find path_cmp e.0 (x ∷ (xs ++ e ∷ rest)) ≡ Some e.1)) [
        | Less ↦ λ p h.
            let over : path_cmp e.0 x.0 ≡ Greater = total.antisymm e.0 x.0 ∙ ap ordering_reverse p in (
              ap (λ o. cond (is_eq o) (Some x.1) (find path_cmp e.0 xs)) over ∙ more.0,
              ap (λ o. cond (is_eq o) (Some x.1) (find path_cmp e.0 (xs ++ e ∷ rest))) over ∙ more.1,
            )
        | Equal ↦ λ p h. absurd h
        | Greater ↦ λ p h. absurd h
      ] refl below

  -- what the row says, of which the tree so far has nothing
  pub record Next (tree whole : Tree) (row : Row) : Type 0 where
    pub path : List ℕ
    pub resource : Resource
    pub is : row ≡ row_of (path, resource)
    pub there : finmap.get whole path ≡ Some resource
    pub absent : finmap.get tree path ≡ None
    pub more : finmap.len tree < finmap.len whole

  next_entry : (tree whole : Tree) (row : Row) (left : List Row) → rows_of whole ≡ rows_of tree ++ row ∷ left → Next tree whole row
  next_entry tree whole row left eq =
      let s = split (finmap.entries tree) (finmap.entries whole) row left eq in
      let found = found_last (finmap.entries tree) s.entry s.rest (subst (λ es. T (is_sorted path_cmp es)) s.whole (finmap.entries_sorted whole)) in
      record {
        path = s.entry.0;
        resource = s.entry.1;
        is = s.is;
        there = finmap.get-entries whole s.entry.0 ∙ ap (find path_cmp s.entry.0) s.whole ∙ found.1;
        absent = finmap.get-entries tree s.entry.0 ∙ found.0;
        more = omega (arith, finmap.len-entries tree, finmap.len-entries whole, ap length s.whole, length-append (finmap.entries tree) (s.entry ∷ s.rest));
      }

  same_some : {A : Type 0} (d x y : A) → Some x ≡ Some y → x ≡ y
  same_some d x y e = ap (λ o. unwrap_or o d) e

  pub row_ahead : (old new : View) (tree whole : Tree) (row : Row) → Reads old tree → Advances old new 0 row true → Holds new.trees whole → Next tree whole row
  row_ahead old new tree whole row reads moves holds =
      let ahead : reads.left ≡ row ∷ moves.0 = same_some [] _ _ (sym reads.ahead ∙ moves.1) in
      next_entry tree whole row moves.0 (sym holds ∙ ap (λ (w : View). w.trees 0) moves.2 ∙ reads.rows ∙ ap (λ rs. rows_of tree ++ rs) ahead)

  pub one_more : (tree : Tree) (path : List ℕ) (resource : Resource) → finmap.get tree path ≡ None → finmap.len (finmap.insert tree path resource) ≡ finmap.len tree + 1
  one_more tree path resource absent =
      finmap.len-insert total tree path resource ∙ ap (λ (o : Option Resource). cond (is_some o) (finmap.len tree) (finmap.len tree + 1)) absent
