-- A resource that is there stays, and one more is there.
use Rattle.std.proofs.Common.{◌≡◌, ◌∙◌, ℕ, Bool, true, false, cond, List, [], Option, Some, None, refl, sym, ap, subst}
use Rattle.std.specs.Cmp.{IsTotalOrder, tied_itself}
use Rattle.std.specs.Option.{is_some}
use Rattle.std.specs.Ordering.{eq_by_cmp, is_eq}
use Rattle.std.specs.FinMap as map
use Rattle.std.specs.FinSet as set
use Rattle.std.proofs.lemmas.List.Elements.{All-weaker}
use Rattle.osc_model.specs.{path_cmp, is_revoked}
use Rattle.osc_model.specs.Tree.{Tree}
use Rattle.osc_model.specs.declared.resource.Resource.{Resource}
use Rattle.osc_message.specs.{fresh}
use Rattle.osc_server.specs.State.{State as Server}
use Rattle.osc_words.specs.declared.settings.server.ServerSettings.{ServerSettings}
use Rattle.osc_store.specs.{changed}
use Rattle.osc_store.specs.Causes.{IsTooLong}
use Rattle.osc_turn.specs.Kept.Changes.{HasTooLong}
use Rattle.osc_programs.specs.{AreRevoked}
use Rattle.osc_programs.specs.Serving.{IsServerOf}

-- ---- one path

abbrev pub empty : Resource
empty = record { format = None; payload = [] }

pub still_put : IsTotalOrder path_cmp → (tree : Tree) (path : List ℕ) (resource : Resource) (other : List ℕ)
    → map.contains_key tree other ≡ true → map.contains_key (map.insert tree path resource) other ≡ true
still_put total tree path resource other there =
    ap is_some (map.get-insert total tree path resource other) ∙ by (eq_by_cmp path_cmp other path) (map.get tree other) there
  where
    by : (same : Bool) (found : Option Resource) → is_some found ≡ true → is_some (cond same (Some resource) found) ≡ true
    by true found h = refl
    by false found h = h

pub there_put : IsTotalOrder path_cmp → (tree : Tree) (path : List ℕ) (resource : Resource) → map.contains_key (map.insert tree path resource) path ≡ true
there_put total tree path resource =
    ap is_some (map.get-insert total tree path resource path ∙ ap (λ b. cond b (Some resource) (map.get tree path)) (ap is_eq (tied_itself total path)))

-- ---- ids

-- who was revoked still is
pub all_still : (root : Option (List ℕ)) (tree new : Tree) (ids : List (List ℕ))
    → ((other : List ℕ) → is_revoked root tree other ≡ true → is_revoked root new other ≡ true) → AreRevoked root tree ids → AreRevoked root new ids
all_still root tree new ids stay = All-weaker (λ id. is_revoked root tree id ≡ true) (λ id. is_revoked root new id ≡ true) stay ids

-- ---- the server

-- a server of a tree is one of a tree that is the same
pub of_same : (settings : ServerSettings) (tree same : Tree) (server : Server) → tree ≡ same → IsServerOf settings tree server → IsServerOf settings same server
of_same settings tree same server is h = subst (λ (t : Tree). IsServerOf settings t server) is h

pub revoked_in : (root : Option (List ℕ)) (ids : List (List ℕ)) (tree own : Tree) → own ≡ tree → AreRevoked root tree ids → AreRevoked root own ids
revoked_in root ids tree own is h = subst (λ (t : Tree). AreRevoked root t ids) (sym is) h

-- a server with these resources, and nothing else
abbrev pub bare : Tree → Server
bare tree = record {
  tree = tree;
  desk = record {
    key = [];
    old_key = None;
    audience = [];
    rules = record { revoked = None; seconds = None; remembered = 0; reserved = None; subtrees = true; answers = false };
    table = [];
  };
  open_scope = set.from_list [];
  endpoint = fresh;
}

-- ---- too long

-- what is too long for its path is so in the tree that has it there
pub long_in : IsTotalOrder path_cmp → (before after : Tree) (path : List ℕ) (resource : Option Resource) → after ≡ changed before path resource → IsTooLong path resource → HasTooLong after
long_in total before after path None is long = absurd long
long_in total before after path (Some resource) is long = (
  path,
  subst (IsTooLong path) (sym (ap (λ (t : Tree). map.get t path) is ∙ (map.get-insert total before path resource path
      ∙ ap (λ b. cond b (Some resource) (map.get before path)) (ap is_eq (tied_itself total path))))) long,
)
