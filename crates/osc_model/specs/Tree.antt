-- Trees of resources.
use Rattle.std.specs.Prelude.{ℕ, ◌≤◌, List, length, Option, Some, None, refl}
use Rattle.std.specs.FinMap as map
use Rattle.std.specs.Coded.{Coded, code_by, coded×, coded_option, coded_list, coded_ℕ}
use Rattle.osc_model.specs.Path.{path_cmp}
use Rattle.osc_model.specs.declared.resource.Resource.{Resource}

-- a finite map from paths to resources
abbrev pub Tree : Type 0
Tree = map.FinMap path_cmp Resource

-- the Content-Format of what is there, if anything is and it has one
abbrev pub format_of : Option Resource → Option ℕ
format_of None = None
format_of (Some resource) = resource.format

-- the length of what is there: nothing counts as no bytes
abbrev pub payload_length : Option Resource → ℕ
payload_length None = 0
payload_length (Some resource) = length resource.payload

-- how many resources a tree has at most, and how many bytes each of them
abbrev pub most_resources : ℕ
most_resources = 1024

-- how many there may be where one more is made that revokes no token, at a server with a revocation path: what is left is for those that revoke
abbrev pub most_elsewhere : ℕ
most_elsewhere = 960

abbrev pub longest_payload : ℕ
longest_payload = 512

pub record IsWithinLimits (tree : Tree) : Type 0 where
  pub few : map.len tree ≤ most_resources
  pub short : (path : List ℕ) → payload_length (map.get tree path) ≤ longest_payload

-- how a tree is told apart from another, for a type that has one as its value
abbrev pub coded_resource : Coded Resource
coded_resource = code_by (Option ℕ × List ℕ) (coded× (coded_option coded_ℕ) (coded_list coded_ℕ)) (λ r. (r.format, r.payload)) (λ p. record { format = p.0; payload = p.1 }) (λ _. refl)

abbrev pub coded_tree : Coded Tree
coded_tree = map.code (coded_list coded_ℕ) coded_resource
