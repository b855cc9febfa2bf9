-- One history: each entry was asked by its client and is answered by its grant and the tree, and each accepted reply is that of its
-- request.
use Rattle.std.specs.Prelude.{◌≡◌, ◌⊎◌, ⊤, ℕ, Bool, true, false, List, [], ◌∷◌, Option, IsSomeAnd}
use Rattle.osc_model.specs.{IsLegal, effect, grant_of, is_revoked, tree_after}
use Rattle.osc_model.specs.Grant.{Grant}
use Rattle.osc_model.specs.Tree.{Tree}
use Rattle.osc_model.specs.declared.step.Entry.{Entry}
use Rattle.osc_authz.specs.{In}
use Rattle.osc_run.specs.Notes.{Noted}
use Rattle.osc_run.specs.States.{Minted, grants_of, WorldState}
use Rattle.osc_options.specs.{read_request}
use Rattle.osc_run.specs.Runs.{Holds}
use Rattle.osc_run.specs.History.{history, questions, Acceptance, acceptances}

-- The client that holds the grant of the entry's context sealed this request, or its holder did in a lie.
pub record IsAskedByHolder (minted : List Minted) (notes : List Noted) (entry : Entry) : Type 0 where
  pub by : ℕ
  pub lied : Bool
  pub holds : Holds minted by entry.context.secret
  pub asked : In (record { by = by; lied = lied; context = entry.context; number = entry.number; plaintext = entry.plaintext }) (questions notes)

-- The reply is that of an entry of its context and number, which has the plaintext that the client sealed under the number, unless
-- the client's holder sealed another one under it in a lie.
pub record IsReplyOfRequest (notes : List Noted) (a : Acceptance) : Type 0 where
  pub entry : Entry
  pub served : In entry (history notes)
  pub context : entry.context ≡ a.context
  pub number : entry.number ≡ a.number
  pub reply : entry.reply ≡ a.reply
  pub plaintext : List ℕ
  pub asked : In (record { by = a.by; lied = false; context = a.context; number = a.number; plaintext = plaintext }) (questions notes)
  pub same : (entry.plaintext ≡ plaintext)
      ⊎ In (record { by = a.by; lied = true; context = a.context; number = a.number; plaintext = entry.plaintext }) (questions notes)

-- The entry came while its token wasn't revoked: on this tree no resource stands for the id of its context's grant below the server's
-- revocation path, if there is one.
abbrev pub IsUnrevoked : List Grant → Option (List ℕ) → Tree → Entry → Type 0
IsUnrevoked grants revoked tree entry = IsSomeAnd (grant_of grants entry.context) (λ grant. is_revoked revoked tree grant.id ≡ false)

-- each entry did, on the tree that the entries before it left
abbrev pub AreUnrevoked : List Grant → Option (List ℕ) → Tree → List Entry → Type 0
AreUnrevoked grants revoked tree [] = ⊤
AreUnrevoked grants revoked tree (entry ∷ entries) =
    IsUnrevoked grants revoked tree entry × AreUnrevoked grants revoked (tree_after read_request revoked grants tree entry) entries

-- The history is legal from the first tree: no two entries share context and number, each came in the time of its grant, and each
-- is answered as the machine answers under the grant's scope. Its effects give the server's tree. No entry came while its token was
-- revoked. Each entry was asked by the holder of its grant, and each accepted reply is that of its request.
pub record OneHistory (w : WorldState) : Type 0 where
  pub legal : IsLegal read_request w.server.rules.revoked (grants_of w.minted) w.first (history w.notes)
  pub effects : effect read_request w.server.rules.revoked (grants_of w.minted) w.first (history w.notes) ≡ w.server.tree
  pub none_revoked : AreUnrevoked (grants_of w.minted) w.server.rules.revoked w.first (history w.notes)
  pub asked : (entry : Entry) → In entry (history w.notes) → IsAskedByHolder w.minted w.notes entry
  pub answered : (a : Acceptance) → In a (acceptances w.notes) → IsReplyOfRequest w.notes a
