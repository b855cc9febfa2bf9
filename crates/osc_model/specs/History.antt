-- Histories: what was served, in order.
use Rattle.std.specs.Prelude.{◌≡◌, if◌then◌else◌, ⊤, ℕ, List, [], ◌∷◌, Option, Result, IsSomeAnd}
use Rattle.std.specs.List.{AllByRecursion}
use Rattle.osc_model.specs.Tree.{Tree}
use Rattle.osc_model.specs.Apply.{Outcome, MayReply, apply_read}
use Rattle.osc_model.specs.Grant.{Grant, IsTimely, grant_of, scope_of}
use Rattle.osc_model.specs.Code.{is_internal_server_error}
use Rattle.osc_model.specs.declared.code.Code.{Code}
use Rattle.osc_model.specs.declared.request.Request.{Request}
use Rattle.osc_model.specs.declared.step.Entry.{Entry}

-- one request is served once: the context and the number tell it
abbrev pub IsSameRequest : Entry → Entry → Type 0
IsSameRequest a b = (a.context ≡ b.context) × (a.number ≡ b.number)

-- no two entries share context and number
abbrev pub HasOwnNumbers : List Entry → Type 0
HasOwnNumbers [] = ⊤
HasOwnNumbers (entry ∷ entries) = AllByRecursion (λ other. ¬ IsSameRequest entry other) entries × HasOwnNumbers entries

-- `read` says what a plaintext's bytes are, `root` is the server's revocation path, if it has one, and `grants` says who may what.
module _ (read : List ℕ → Result Request Code) (root : Option (List ℕ)) (grants : List Grant) where
  -- what the machine does with an entry's plaintext, under the scope of its context's grant
  abbrev pub outcome_of : Tree → Entry → Outcome
  outcome_of tree entry = apply_read root tree (scope_of (grant_of grants entry.context)) (read entry.plaintext)

  -- a 5.00 changes nothing
  abbrev pub tree_after : Tree → Entry → Tree
  tree_after tree entry = if is_internal_server_error entry.reply.code then tree else (outcome_of tree entry).tree

  -- the tree after the entries, in order
  abbrev pub effect : Tree → List Entry → Tree
  effect tree [] = tree
  effect tree (entry ∷ entries) = effect (tree_after tree entry) entries

  -- each entry is answered on the tree that the earlier ones left
  abbrev pub AreAnswered : Tree → List Entry → Type 0
  AreAnswered tree [] = ⊤
  AreAnswered tree (entry ∷ entries) = MayReply (outcome_of tree entry) entry.reply × AreAnswered (tree_after tree entry) entries

  -- the entry came in its grant's time
  abbrev pub IsInTime : Entry → Type 0
  IsInTime entry = IsSomeAnd (grant_of grants entry.context) (λ grant. IsTimely grant entry.moment)

  -- a legal history from a first tree
  pub record IsLegal (first : Tree) (history : List Entry) : Type 0 where
    pub once : HasOwnNumbers history
    pub timely : AllByRecursion IsInTime history
    pub answered : AreAnswered first history

  -- one more entry goes on with a history
  pub record MayFollow (first : Tree) (history : List Entry) (entry : Entry) : Type 0 where
    pub once : AllByRecursion (λ other. ¬ IsSameRequest other entry) history
    pub timely : IsInTime entry
    pub answered : MayReply (outcome_of (effect first history) entry) entry.reply
