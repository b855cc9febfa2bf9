-- The checks that a request must pass, read from the top: the first that fails answers.
use Rattle.std.specs.Prelude.{◌≡◌, ℕ, ◌≤◌, ◌<◌, Bool, true, false, not, ◌&&◌, ◌||◌, ◌==◌, if◌then◌else◌, List, [], ◌∷◌, ◌++◌, length, nat_le, Option, Some, None, is_some, is_none, bytes_eq}
use Rattle.std.specs.List.{list_any}
use Rattle.std.specs.FinMap as map
use Rattle.osc_model.specs.Code.{code, method_of}
use Rattle.osc_model.specs.Tree.{Tree, format_of, payload_length, most_resources, most_elsewhere, longest_payload}
use Rattle.osc_model.specs.Path.{segments_of, begins_with}
use Rattle.osc_model.specs.Scope.{Scope, allows, names}
use Rattle.osc_model.specs.Reply.{etag_of}
use Rattle.osc_model.specs.declared.code.Code.{Code}
use Rattle.osc_model.specs.declared.code.Method.{Method}
use Rattle.osc_model.specs.declared.code.Method.TheVariants.{Get, Post, Put}
use Rattle.osc_model.specs.declared.request.Request.{Request}
use Rattle.osc_model.specs.declared.resource.Resource.{Resource}

-- If-Match (RFC 7252 section 5.10.8.1): there is none, or one of its values is the resource's ETag, or is empty and there is a resource
abbrev pub is_matched : Option Resource → List (List ℕ) → Bool
is_matched found [] = true
is_matched None (tag ∷ tags) = false
is_matched (Some resource) (tag ∷ tags) = list_any (λ t. length t == 0 || bytes_eq t (etag_of resource)) (tag ∷ tags)

-- Accept (section 5.10.4): there is none, or the resource has no format, or that one
abbrev pub is_acceptable : Option ℕ → Option ℕ → Bool
is_acceptable None format = true
is_acceptable (Some accepted) None = true
is_acceptable (Some accepted) (Some format) = format == accepted

-- What a PUT or a POST makes of what is there, and none for the other methods: PUT sets, POST appends and keeps the format.
abbrev pub written : Option Method → Option Resource → Request → Option Resource
written (Some Put) found request = Some (record { format = request.format; payload = request.payload })
written (Some Post) None request = Some (record { format = request.format; payload = request.payload })
written (Some Post) (Some old) request = Some (record { format = old.format; payload = old.payload ++ request.payload })
written _ found request = None

abbrev pub is_get : Option Method → Bool
is_get (Some Get) = true
is_get _ = false

-- the checks of one method, each with the code that answers where it fails
abbrev pub method_checks : Option Method → Option Resource → Bool → Request → List (Bool × Code)
method_checks method found is_full request =
    let new = written method found request in
    (not (is_get method && is_none found), code 4 4)
    ∷ (not (is_get method) || is_acceptable request.accept (format_of found), code 4 6)
    ∷ (nat_le (payload_length new) longest_payload, code 4 13)
    ∷ (not (is_some new && is_none found && is_full), code 5 3)
    ∷ []

-- The number of resources from which on no new one is made at a path. At a server with a revocation path, what isn't below it leaves room for what is.
abbrev pub most_at : Option (List ℕ) → List ℕ → ℕ
most_at None path = most_resources
most_at (Some root) path = if begins_with (segments_of path) (segments_of root) then most_resources else most_elsewhere

-- whether there are at least that many resources
abbrev pub is_full_at : Option (List ℕ) → Tree → List ℕ → Bool
is_full_at root tree path = nat_le (most_at root path) (map.len tree)

-- the checks of every request that names a path, at a server that may have a revocation path
abbrev pub checks : Option (List ℕ) → Tree → Scope → List ℕ → Request → List (Bool × Code)
checks root tree scope path request =
    let method = method_of request.code in
    let found = map.get tree path in
    (names scope path, code 4 3)
    ∷ (allows scope path method, code 4 5)
    ∷ (is_matched found request.if_match, code 4 12)
    ∷ (not (request.if_none_match && is_some found), code 4 12)
    ∷ method_checks method found (is_full_at root tree path) request

-- the first check that fails answers
abbrev pub first_failing : List (Bool × Code) → Option Code
first_failing [] = None
first_failing (check ∷ rest) = if check.0 then first_failing rest else Some check.1

unfoldable pub refusal : Option (List ℕ) → Tree → Scope → List ℕ → Request → Option Code
refusal root tree scope path request = first_failing (checks root tree scope path request)

-- what a request would write stays within the limits
pub record CanWrite (tree : Tree) (path : List ℕ) (resource : Resource) : Type 0 where
  pub short : length resource.payload ≤ longest_payload
  pub room : map.contains_key tree path ≡ false → map.len tree < most_resources

abbrev pub AllowsWrite : Tree → List ℕ → Request → Type 0
AllowsWrite tree path request = (resource : Resource) → written (method_of request.code) (map.get tree path) request ≡ Some resource → CanWrite tree path resource
