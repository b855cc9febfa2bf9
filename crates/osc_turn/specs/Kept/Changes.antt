-- What an entry changes in a tree.
use Rattle.std.specs.Prelude.{◌≡◌, ◌==◌, if◌then◌else◌, ℕ, Bool, List, [], ◌∷◌, Option, Some, None, Result, Ok, Err}
use Rattle.std.specs.List.{list_any}
use Rattle.std.specs.FinMap as map
use Rattle.osc_model.specs.Tree.{Tree}
use Rattle.osc_model.specs.declared.code.Code.{Code}
use Rattle.osc_model.specs.declared.request.Request.{Request}
use Rattle.osc_model.specs.declared.step.Entry.{Entry}
use Rattle.osc_store.specs.{changed}
use Rattle.osc_store.specs.Causes.{IsTooLong}

-- the codes that tell of a change: 2.01 Created, 2.02 Deleted and 2.04 Changed (RFC 7252 section 5.9.1)
abbrev pub tells_change : Code → Bool
tells_change c = list_any (λ n. n == c.0) (65 ∷ 66 ∷ 68 ∷ [])

-- the path that is asked for
abbrev pub path_asked : Result Request Code → Option (List ℕ)
path_asked (Ok request) = request.path
path_asked (Err why) = None

-- the path that an entry changed, if it changed any
abbrev pub path_changed : Entry → Option (List ℕ)
path_changed entry = if tells_change entry.reply.code then path_asked entry.request else None

-- the same of the request that a step served, if it served one
abbrev pub path_changed_by : Option Entry → Option (List ℕ)
path_changed_by None = None
path_changed_by (Some entry) = path_changed entry

-- two trees differ at this path alone, or not at all
abbrev pub DifferAt : Option (List ℕ) → Tree → Tree → Type 0
DifferAt None before after = after ≡ before
DifferAt (Some path) before after = after ≡ changed before path (map.get after path)

-- the tree before a step, and after it: they differ where the request that it served says, if it served one
abbrev pub IsChangeOf : Option Entry → Tree → Tree → Type 0
IsChangeOf served before after = DifferAt (path_changed_by served) before after

-- what some path has in this tree is too long to be kept
abbrev pub HasTooLong : Tree → Type 0
HasTooLong tree = (path : List ℕ) × IsTooLong path (map.get tree path)
