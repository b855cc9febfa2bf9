-- Scopes: which methods a holder may use on which paths.
use Rattle.std.specs.Prelude.{ℕ, Bool, false, ◌&&◌, ◌==◌, if◌then◌else◌, List, Option, Some, None, bytes_eq, refl}
use Rattle.std.specs.List.{list_any}
use Rattle.std.specs.Ordering.{nat_cmp, bool_cmp, ordering_then}
use Rattle.std.specs.declared.cmp.Ordering.{Ordering}
use Rattle.std.specs.FinSet as set
use Rattle.std.specs.Coded.{Coded, code_by, coded×, coded_list, coded_ℕ, coded_bool}
use Rattle.osc_model.specs.Path.{path_cmp, segments_of, begins_with}
use Rattle.osc_model.specs.Code.{method_number, method_with_number, method_back}
use Rattle.osc_model.specs.declared.code.Method.{Method}

-- What is permitted: a method on one path, or on that path and each path below it.
pub record Permission : Type 0 where
  pub path : List ℕ
  pub below : Bool
  pub method : Method

-- the permission of one path alone
abbrev pub exactly : List ℕ → Method → Permission
exactly path method = record { path = path; below = false; method = method }

-- by path, then those of the path alone, then by method
abbrev pub permission_cmp : Permission → Permission → Ordering
permission_cmp a b =
    ordering_then (path_cmp a.path b.path) (ordering_then (bool_cmp a.below b.below) (nat_cmp (method_number a.method) (method_number b.method)))

-- A set of permissions, each of which stands for pairs of a path and a method.
abbrev pub Scope : Type 0
Scope = set.FinSet permission_cmp

-- ---- the pairs that a permission stands for

-- whether a path is the top one or, where those below count too, begins with all of its segments
abbrev pub is_reached : List ℕ → Bool → List ℕ → Bool
is_reached top below path = if below then begins_with (segments_of path) (segments_of top) else bytes_eq path top

abbrev pub covers : Permission → List ℕ → Bool
covers permission path = is_reached permission.path permission.below path

abbrev pub is_same_method : Method → Method → Bool
is_same_method a b = method_number a == method_number b

abbrev pub stands_for : Permission → List ℕ → Method → Bool
stands_for permission path method = covers permission path && is_same_method method permission.method

-- whether the scope has this method on the path; no scope has an unknown method
abbrev pub allows : Scope → List ℕ → Option Method → Bool
allows scope path None = false
allows scope path (Some method) = list_any (λ permission. stands_for permission path method) (set.items scope)

-- whether the scope has the path with some method
abbrev pub names : Scope → List ℕ → Bool
names scope path = list_any (λ permission. covers permission path) (set.items scope)

-- whether a permission of it counts on the paths below its own, too
abbrev pub has_subtrees : Scope → Bool
has_subtrees scope = list_any (λ permission. permission.below) (set.items scope)

-- ---- how a scope is told apart from another, for a type that has one as its value

abbrev pub coded_method : Coded Method
coded_method = code_by ℕ coded_ℕ method_number method_with_number (λ m. method_back m)

abbrev pub coded_permission : Coded Permission
coded_permission =
    code_by (List ℕ × (Bool × Method)) (coded× (coded_list coded_ℕ) (coded× coded_bool coded_method))
    (λ permission. (permission.path, (permission.below, permission.method)))
    (λ parts. record { path = parts.0; below = parts.1.0; method = parts.1.1 })
    (λ permission. refl)

abbrev pub coded_scope : Coded Scope
coded_scope = set.code coded_permission
