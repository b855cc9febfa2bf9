-- The runs of a server, its clients and proxies: every list of steps, whatever the network did.
use Rattle.std.specs.Prelude.{◌≡◌, ℕ, Bool, List, [], ◌∷◌, Some, None, Ok, slice_get, slice_set}
use Rattle.osc_model.specs.Grant.{Grant}
use Rattle.osc_model.specs.Scope.{Scope}
use Rattle.osc_model.specs.StepNotes.{StepNotes}
use Rattle.osc_model.specs.declared.node.Moment.{Moment}
use Rattle.osc_token.specs.{ComesTo}
use Rattle.osc_token.specs.declared.claims.Claims.{Claims}
use Rattle.osc_authz.specs.{In}
use Rattle.osc_run.specs.Notes.{by_server, by_client, by_proxy}
use Rattle.osc_run.specs.States.{ServerState, ClientState, Minted, WorldState, Nothing}
use Rattle.osc_run.specs.ServerKinds.{ServerStep}
use Rattle.osc_run.specs.ClientKinds.{ClientStep, IsSkipped}
use Rattle.osc_run.specs.ProxyKinds.{ProxyStep}

-- ---- where a run begins

-- claims, and the scope that they stand for, are those of the grant
pub record AreOfGrant (grant : Grant) (claims : Claims) (granted : Scope) : Type 0 where
  pub id : claims.material.id ≡ grant.id
  pub secret : claims.material.secret ≡ grant.secret
  pub scope : granted ≡ grant.scope
  pub not_before : claims.not_before ≡ grant.not_before
  pub expires : claims.expires ≡ grant.expires

-- To whatever claims the text comes, for whomever and at whatever moment, they are those of the grant.
abbrev pub IsTextOf : Grant → List ℕ → Type 0
IsTextOf grant text =
    (audience : List ℕ) (now : Moment) (claims : Claims) (scope : Scope) → ComesTo text audience now (Ok (claims, scope)) → AreOfGrant grant claims scope

-- the client of this number holds a grant with this secret
pub record Holds (minted : List Minted) (by : ℕ) (its_secret : List ℕ) : Type 0 where
  pub held : Minted
  pub granted : In held minted
  pub holder : held.grant.holder ≡ by
  pub secret : held.grant.secret ≡ its_secret

-- the client has a grant, and did nothing yet
pub record IsNewClient (minted : List Minted) (by : ℕ) (client : ClientState) : Type 0 where
  pub holds : Holds minted by client.desk.secret
  pub context : client.context ≡ None
  pub outstanding : client.outstanding ≡ Nothing

-- Each token has the text of its grant, no node has a context, and nothing was noted.
pub record IsStart (w : WorldState) : Type 0 where
  pub texts : (m : Minted) → In m w.minted → IsTextOf m.grant m.text
  pub tree : w.server.tree ≡ w.first
  pub contexts : w.server.contexts ≡ []
  pub clients : (by : ℕ) (client : ClientState) → slice_get w.clients by ≡ Some client → IsNewClient w.minted by client
  pub notes : w.notes ≡ []

-- ---- how it goes on

-- One node takes a step, and what the step did is noted; no other node changes. Between events the next number of a client may be
-- raised.
pub data WorldStep (old new : WorldState) : Type 0 where
  OfServer : (now : Moment) (server : ServerState) (notes : StepNotes)
      → ServerStep old.server now notes server
      → new ≡ record old { server = server; notes = by_server notes ∷ old.notes }
      → WorldStep old new
  OfClient : (by : ℕ) (lied : Bool) (before after : ClientState) (notes : StepNotes)
      → slice_get old.clients by ≡ Some before → ClientStep lied before notes after
      → new ≡ record old { clients = slice_set old.clients by after; notes = by_client by lied notes ∷ old.notes }
      → WorldStep old new
  OfProxy : (by : ℕ) (notes : StepNotes)
      → ProxyStep notes
      → new ≡ record old { notes = by_proxy by notes ∷ old.notes }
      → WorldStep old new
  Skipped : (by : ℕ) (before after : ClientState)
      → slice_get old.clients by ≡ Some before → IsSkipped before after
      → new ≡ record old { clients = slice_set old.clients by after }
      → WorldStep old new

-- the states of a run, the newest first
abbrev pub IsRun : List WorldState → Type 0
IsRun [] = ⊥
IsRun (w ∷ []) = IsStart w
IsRun (w ∷ v ∷ earlier) = WorldStep v w × IsRun (v ∷ earlier)

-- some run leads here
abbrev pub IsReached : WorldState → Type 0
IsReached w = (earlier : List WorldState) × IsRun (w ∷ earlier)
