-- What no check refuses keeps the tree within its limits.
use Rattle.std.proofs.Common.{◌≡◌, ℕ, ◌<◌, ◌≤◌, Bool, true, false, not, ◌&&◌, List, [], ◌∷◌, Option, Some, None, is_some, is_none, nat_le, if◌then◌else◌, arith, refl, subst}
use Rattle.std.proofs.lemmas.Bool.Decides.{nat_tests}
use Rattle.std.specs.List.{AllByRecursion}
use Rattle.std.specs.FinMap as map
use Rattle.std.specs.FinSet as set
use Rattle.osc_model.specs.{payload_length, longest_payload, most_resources, most_elsewhere, most_at, is_full_at, segments_of, begins_with, covers, is_same_method, allows, names, CanWrite, AllowsWrite, first_failing, checks, refusal}
use Rattle.osc_model.specs.Tree.{Tree}
use Rattle.osc_model.specs.Scope.{Scope}
use Rattle.osc_model.specs.declared.code.Code.{Code}
use Rattle.osc_model.specs.declared.code.Method.{Method}
use Rattle.osc_model.specs.declared.request.Request.{Request}
use Rattle.osc_model.specs.declared.resource.Resource.{Resource}
use Rattle.osc_model.proofs.Members.{any_weaker}

first_passes : (b : Bool) (c : Code) (rest : Option Code) → (if b then rest else Some c) ≡ None → (b ≡ true) × (rest ≡ None)
first_passes true c rest e = (refl, e)
first_passes false c rest e = cc

-- where no check fails, each passes
pub all_pass : (rows : List (Bool × Code)) → first_failing rows ≡ None → AllByRecursion (λ row. row.0 ≡ true) rows
all_pass [] e = tt
all_pass (row ∷ rows) e =
    let first = first_passes row.0 row.1 (first_failing rows) e in
    (first.0, all_pass rows first.1)

most_of : (below : Bool) → (if below then most_resources else most_elsewhere) ≤ most_resources
most_of true = omega arith
most_of false = omega arith

most_is_at_most : (root : Option (List ℕ)) (path : List ℕ) → most_at root path ≤ most_resources
most_is_at_most None path = omega arith
most_is_at_most (Some root) path = most_of (begins_with (segments_of path) (segments_of root))

room_left : (found : Option Resource) (most n : ℕ) → most ≤ most_resources → not (true && is_none found && nat_le most n) ≡ true → is_some found ≡ false → n < most_resources
room_left None most n bound e absent = grind (arith, nat_tests)
room_left (Some r) most n bound e absent = cc

-- the last two rows of the table
written_passes : (root : Option (List ℕ)) (tree : Tree) (path : List ℕ) (new : Option Resource) (resource : Resource) → new ≡ Some resource → nat_le (payload_length new) longest_payload ≡ true → not (is_some new && is_none (map.get tree path) && is_full_at root tree path) ≡ true → CanWrite tree path resource
written_passes root tree path None resource e short room = cc
written_passes root tree path (Some new) resource e short room = record {
  short = subst (λ r. payload_length r ≤ longest_payload) e (grind (arith, nat_tests));
  room = room_left (map.get tree path) (most_at root path) (map.len tree) (most_is_at_most root path) room;
}

pub allows_write : (root : Option (List ℕ)) (tree : Tree) (scope : Scope) (path : List ℕ) (request : Request) → refusal root tree scope path request ≡ None → AllowsWrite tree path request
unfolding refusal
allows_write root tree scope path request passed resource e =
    let passes = all_pass (checks root tree scope path request) passed in
    written_passes root tree path _ resource e passes.1.1.1.1.1.1.0 passes.1.1.1.1.1.1.1.0

-- a scope that allows a method on a path has the path
pub names_from_allows : (scope : Scope) (path : List ℕ) (method : Option Method) → allows scope path method ≡ true → names scope path ≡ true
names_from_allows scope path None e = cc
names_from_allows scope path (Some method) e = any_weaker (λ p. covers p path) (λ p. is_same_method method p.method) (set.items scope) e
