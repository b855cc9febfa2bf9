-- The tokens that the settings of a server revoke at each start.
use Rattle.std.specs.Prelude.{◌≡◌, ◌≢◌, ◌≤◌, ◌+◌, ℕ, true, List, [], fold, length, take, Option, Some, None, if◌then◌else◌}
use Rattle.std.specs.List.{All}
use Rattle.std.specs.FinMap as map
use Rattle.osc_model.specs.{is_revoked, revocation_of}
use Rattle.osc_model.specs.Tree.{Tree}
use Rattle.osc_server.specs.State.{State as Server}
use Rattle.osc_programs.specs.declared.ended.Ended.{Ended}
use Rattle.osc_programs.specs.declared.ended.Ended.TheVariants.{Done, NotKept}

-- an empty resource at the path, if nothing is there
abbrev pub with_place : Tree → List ℕ → Tree
with_place tree path = if map.contains_key tree path then tree else map.insert tree path (record { format = None; payload = [] })

-- the same at a path, if there is one
abbrev pub with_place_at : Tree → Option (List ℕ) → Tree
with_place_at tree None = tree
with_place_at tree (Some path) = with_place tree path

-- the tokens of one more id are revoked
abbrev pub with_revoked_id : Option (List ℕ) → Tree → List ℕ → Tree
with_revoked_id root tree id = with_place_at tree (revocation_of root id)

-- a tree in which those of these ids are, at a server with this revocation path
abbrev pub with_revoked : Option (List ℕ) → List (List ℕ) → Tree → Tree
with_revoked root ids tree = fold (with_revoked_id root) tree ids

-- they are
abbrev pub AreRevoked : Option (List ℕ) → Tree → List (List ℕ) → Type 0
AreRevoked root tree ids = All (λ id. is_revoked root tree id ≡ true) ids

-- what keeps the changes of a server keeps these resources, whatever else the server has
abbrev pub KeepsTree : {K : Type 0} → (K → Server → Type 0) → K → Tree → Type 0
KeepsTree keeps keeper tree = (server : Server) → server.tree ≡ tree → keeps keeper server

-- the same of one of two
abbrev pub MayHoldTree : {K : Type 0} → (K → Server → Server → Type 0) → K → Tree → Tree → Type 0
MayHoldTree may_hold keeper before after = (first last : Server) → first.tree ≡ before → last.tree ≡ after → may_hold keeper first last

-- one of these resources is too long to be kept
abbrev pub IsTooLongIn : (Server → Type 0) → Tree → Type 0
IsTooLongIn too_long tree = (server : Server) × (server.tree ≡ tree) × too_long server

-- the resources after a change that was under way at such an end, if one was, which then isn't kept
abbrev pub under_way : Ended → Tree → Tree → Tree
under_way (NotKept error) before after = after
under_way other before after = before

-- As the tokens of these ids were revoked it ended so, with those of the first of them revoked, and perhaps with one more that isn't kept: the resources
-- before that, and after it.
pub record Stops (root : Option (List ℕ)) (ids : List (List ℕ)) (tree : Tree) (ended : Ended) (before after : Tree) : Type 0 where
  pub not_done : ended ≢ Done
  pub revoked : ℕ
  pub few : revoked ≤ length ids
  pub is_before : before ≡ with_revoked root (take revoked ids) tree
  pub is_after : after ≡ under_way ended before (with_revoked root (take (revoked + 1) ids) tree)
