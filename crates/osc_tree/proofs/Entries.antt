-- The entries of a BTreeMap, and the finite map that they make.
use Rattle.std.proofs.Common.{arith, ◌≡◌, ℕ, cond, List, [], ◌∷◌, length, Option, Some, None, refl, sym, ◌∙◌, ap}
use Rattle.std.specs.Ordering.{eq_by_cmp}
use Rattle.std.specs.Cmp.{IsTotalOrder, eq_by_cmp_equiv}
use Rattle.std.specs.FinMap as map
use Rattle.std.specs.FinMap.{IsAntisymmetric, find, put}
use Rattle.std.specs.FinMap.Entries.{by_order}
use Rattle.std.specs.List.Sorted.{IsStrictlySortedBy}
use Rattle.std.proofs.lemmas.Map.Keys.{sorted_head, sorted_tail}
use Rattle.std.specs.Map.{lookup, keys_of}
use Rattle.std.specs.BTreeMap.{is_at}
use Rattle.osc_model.specs.{path_cmp}
use Rattle.osc_model.specs.Tree.{Tree}
use Rattle.osc_model.specs.declared.resource.Resource.{Resource}

abbrev pub Entries : Type 0
Entries = List (List ℕ × Resource)

abbrev pub tree_of : Entries → Tree
tree_of es = map.from_entries es

-- what a BTreeMap of these entries has at a path
abbrev pub found_at : Entries → List ℕ → Option Resource
found_at es path = lookup (is_at (path_cmp path)) es

find_is_lookup : (es : Entries) (path : List ℕ) → find path_cmp path es ≡ found_at es path
find_is_lookup [] path = refl
find_is_lookup (e ∷ es) path = ap (cond (is_at (path_cmp path) e.0) (Some e.1)) (find_is_lookup es path)

-- What follows rests on the order of paths, as a law of osc_model states it.
module _ (total : IsTotalOrder path_cmp) (exact : IsAntisymmetric path_cmp) where
  pub get_is_lookup : (es : Entries) (path : List ℕ) → map.get (tree_of es) path ≡ found_at es path
  get_is_lookup es path = map.get-from_entries total es path ∙ find_is_lookup es path

  -- entries that differ at one path make trees that differ there
  pub inserted : (es fs : Entries) (path : List ℕ) (resource : Resource) → ((q : List ℕ) → found_at fs q ≡ cond (is_at (path_cmp path) q) (Some resource) (found_at es q)) → tree_of fs ≡ map.insert (tree_of es) path resource
  inserted es fs path resource h = map.same_map total exact _ _ (λ q.
      get_is_lookup fs q ∙ h q ∙ ap (λ b. cond b (Some resource) (found_at es q)) ((eq_by_cmp_equiv total).symm path q)
      ∙ sym (map.get-insert total (tree_of es) path resource q ∙ ap (cond (eq_by_cmp path_cmp q path) (Some resource)) (get_is_lookup es q)))

  pub removed : (es fs : Entries) (path : List ℕ) → ((q : List ℕ) → found_at fs q ≡ cond (is_at (path_cmp path) q) None (found_at es q)) → tree_of fs ≡ map.remove (tree_of es) path
  removed es fs path h = map.same_map total exact _ _ (λ q.
      get_is_lookup fs q ∙ h q ∙ ap (λ b. cond b None (found_at es q)) ((eq_by_cmp_equiv total).symm path q)
      ∙ sym (map.get-remove total (tree_of es) path q ∙ ap (cond (eq_by_cmp path_cmp q path) None) (get_is_lookup es q)))

  -- the finite map of entries in the order of their paths has these entries
  below_first : (e : List ℕ × Resource) (es : Entries) → IsStrictlySortedBy path_cmp (keys_of (e ∷ es)) → put path_cmp e.0 e.1 es ≡ e ∷ es
  below_first e [] sorted = refl
  below_first e (f ∷ es) sorted = ap (λ r. by_order r (e ∷ f ∷ es) ((f.0, e.1) ∷ es) (f ∷ put path_cmp e.0 e.1 es)) (sorted_head path_cmp e.0 (keys_of (f ∷ es)) sorted).0

  nothing : (es : Entries) → length es ≡ 0 → es ≡ []
  nothing [] e = refl
  nothing (e ∷ es) more = absurd (omega arith)

  pub entries_of_sorted : (es : Entries) → IsStrictlySortedBy path_cmp (keys_of es) → map.entries (tree_of es) ≡ es
  entries_of_sorted [] sorted = nothing (map.entries (tree_of [])) (sym (map.len-entries (tree_of [])) ∙ map.len-empty path_cmp Resource)
  entries_of_sorted (e ∷ es) sorted =
      map.entries-insert total (tree_of es) e.0 e.1
      ∙ ap (put path_cmp e.0 e.1) (entries_of_sorted es (sorted_tail path_cmp e.0 (keys_of es) sorted))
      ∙ below_first e es sorted

  pub len_of_sorted : (es : Entries) → IsStrictlySortedBy path_cmp (keys_of es) → map.len (tree_of es) ≡ length es
  len_of_sorted es sorted = map.len-entries (tree_of es) ∙ ap length (entries_of_sorted es sorted)
