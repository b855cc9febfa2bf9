-- Isolation: what each holder is answered, whatever the other holders do.
use Rattle.std.specs.Prelude.{◌≡◌, ◌≢◌, ◌==◌, ⊤, ℕ, Bool, true, false, ◌||◌, List, [], ◌∷◌, map, Option, Result, is_some}
use Rattle.std.specs.List.{AllByRecursion, filter}
use Rattle.osc_model.specs.Tree.{Tree}
use Rattle.osc_model.specs.Scope.{Scope, names}
use Rattle.osc_model.specs.Grant.{Grant, grant_of}
use Rattle.osc_model.specs.History.{outcome_of}
use Rattle.osc_model.specs.Code.{is_internal_server_error, is_service_unavailable}
use Rattle.osc_model.specs.declared.code.Code.{Code}
use Rattle.osc_model.specs.declared.reply.Reply.{Reply}
use Rattle.osc_model.specs.declared.request.Request.{Request}
use Rattle.osc_model.specs.declared.step.Entry.{Entry}

-- ---- whose grants and paths

-- the grants that a client holds
abbrev pub held_by : ℕ → List Grant → List Grant
held_by client grants = filter (λ grant. grant.holder == client) grants

-- each grant has a secret of its own
abbrev pub HaveOwnSecrets : List Grant → Type 0
HaveOwnSecrets [] = ⊤
HaveOwnSecrets (grant ∷ grants) = AllByRecursion (λ other. other.secret ≢ grant.secret) grants × HaveOwnSecrets grants

-- no path is in both scopes
abbrev pub AreApart : Scope → Scope → Type 0
AreApart scope other = (path : List ℕ) → names scope path ≡ true → names other path ≡ false

-- no two grants name a common path
abbrev pub HaveOwnPaths : List Grant → Type 0
HaveOwnPaths [] = ⊤
HaveOwnPaths (grant ∷ grants) = AllByRecursion (λ other. AreApart grant.scope other.scope) grants × HaveOwnPaths grants

-- ---- what was answered, and what is answered alone

-- a reply, and the number of the request that it answers
abbrev pub Answer : Type 0
Answer = ℕ × Reply

-- what the history's entries were answered
abbrev pub answers : List Entry → List Answer
answers entries = map (λ entry. (entry.number, entry.reply)) entries

-- the entries in contexts of these grants
abbrev pub entries_under : List Grant → List Entry → List Entry
entries_under grants entries = filter (λ entry. is_some (grant_of grants entry.context)) entries

-- `read` says what a plaintext's bytes are, `root` is the server's revocation path, if it has one, and `grants` says who may what.
module _ (read : List ℕ → Result Request Code) (root : Option (List ℕ)) (grants : List Grant) where
  -- what the machine answers to these entries, one after the other
  abbrev pub machine_answers : Tree → List Entry → List Answer
  machine_answers tree [] = []
  machine_answers tree (entry ∷ entries) =
      let outcome = outcome_of read root grants tree entry in
      (entry.number, outcome.reply) ∷ machine_answers outcome.tree entries

-- what a client's entries are answered when they alone follow the first tree, under the client's grants alone
abbrev pub alone : (List ℕ → Result Request Code) → Option (List ℕ) → List Grant → ℕ → Tree → List Entry → List Answer
alone read root grants client first history =
    let own = held_by client grants in machine_answers read root own first (entries_under own history)

-- what they were answered in the history
abbrev pub answered : List Grant → ℕ → List Entry → List Answer
answered grants client history = answers (entries_under (held_by client grants) history)

-- ---- how far the two agree

-- a 5.00 in the history, for lack of memory, or a 5.03 in the history or alone, for lack of room
abbrev pub is_for_want : Reply → Reply → Bool
is_for_want served alone = is_internal_server_error served.code || is_service_unavailable served.code || is_service_unavailable alone.code

-- the replies are the same up to, and not with, the first that is for lack
abbrev pub AgreeUpToWant : List Answer → List Answer → Type 0
AgreeUpToWant [] [] = ⊤
AgreeUpToWant (served ∷ more) (alone ∷ others) = is_for_want served.1 alone.1 ≡ false → (served.1 ≡ alone.1) × AgreeUpToWant more others
AgreeUpToWant _ _ = ⊥

abbrev pub numbers : List Answer → List ℕ
numbers given = map (λ answer. answer.0) given

-- the same requests are answered, and so far by the same replies
pub record Agree (served alone : List Answer) : Type 0 where
  pub requests : numbers served ≡ numbers alone
  pub replies : AgreeUpToWant served alone

-- What a client is answered is what it would be answered alone, whatever other holders meet.
abbrev pub IsIsolated : (List ℕ → Result Request Code) → Option (List ℕ) → List Grant → Tree → List Entry → Type 0
IsIsolated read root grants first history = (client : ℕ) → Agree (answered grants client history) (alone read root grants client first history)
