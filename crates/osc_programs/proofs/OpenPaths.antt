-- The scope of open paths, path by path.
use Rattle.std.proofs.Common.{◌≡◌, ◌+◌, ◌<◌, ℕ, List, [], ◌∷◌, length, map, take, get_or, add-one, sym}
use Rattle.std.proofs.Math.Seq.{take-suc}
use Rattle.std.proofs.lemmas.List.{map-append}
use Rattle.std.specs.Cmp.{IsTotalOrder}
use Rattle.std.specs.FinSet as set
use Rattle.osc_model.specs.{Permission, exactly, permission_cmp}
use Rattle.osc_model.specs.Scope.{Scope}
use Rattle.osc_model.specs.declared.code.Method.TheVariants.{Get}

abbrev get_of : List ℕ → Permission
get_of path = exactly path Get

pub one_path : IsTotalOrder permission_cmp → set.IsAntisymmetric permission_cmp → (paths : List (List ℕ)) (i : ℕ) (d path : List ℕ) (old new : Scope) → i < length paths
    → path ≡ get_or paths i d → old ≡ set.from_list (map (λ path. exactly path Get) (take i paths)) → new ≡ set.insert old (exactly path Get)
    → new ≡ set.from_list (map (λ path. exactly path Get) (take (i + 1) paths))
one_path total exact paths i d path old new lt is_path so_far more =
    let pushed = set.from_list_push total exact (map get_of (take i paths)) (get_of (get_or paths i d)) in
    rw (add-one i, take-suc paths i d lt, map-append get_of (take i paths) (get_or paths i d ∷ []), more, so_far, is_path) (sym pushed)
