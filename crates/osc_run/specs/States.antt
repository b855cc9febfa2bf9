-- What a run knows of the nodes: their security contexts (RFC 8613 section 3), what a client waits for, and the resources;
-- neither datagrams nor the message layer.
use Rattle.std.specs.Prelude.{ℕ, List, map, Option}
use Rattle.osc_model.specs.Grant.{Grant}
use Rattle.osc_model.specs.Tree.{Tree}
use Rattle.osc_model.specs.declared.context.ContextName.{ContextName}
use Rattle.osc_authz.specs.{ClientContextState, OfToken}
use Rattle.osc_authz.specs.Begun.{Begun}
use Rattle.osc_authz.specs.declared.granted.ClientDesk.{ClientDesk}
use Rattle.osc_authz.specs.declared.rules.ContextRules.{ContextRules}
use Rattle.osc_run.specs.Notes.{Noted}

-- the contexts that a server holds, each with its token's id and whether it is confirmed; its resources; and what it rules for its
-- contexts
pub record ServerState : Type 0 where
  pub contexts : List OfToken
  pub tree : Tree
  pub rules : ContextRules

-- a protected request that waits for its response: its context and its sender sequence number; what was sealed under them is noted
pub record OpenAsk : Type 0 where
  pub context : ContextName
  pub number : ℕ

-- what a client waits for: nothing, the answer to an exchange (RFC 9203 section 4), or a protected response
pub data Outstanding : Type 0 where
  Nothing : Outstanding
  Exchange : Begun → Outstanding
  Ask : OpenAsk → Outstanding

-- what a client was granted, its context with the number that it takes next, and what it waits for
pub record ClientState : Type 0 where
  pub desk : ClientDesk
  pub context : Option ClientContextState
  pub outstanding : Outstanding

-- a grant, and the text of the claims that were sealed into its token
pub record Minted : Type 0 where
  pub grant : Grant
  pub text : List ℕ

-- the grants, which a history is judged by
abbrev pub grants_of : List Minted → List Grant
grants_of minted = map (λ m. m.grant) minted

-- The grants and the resources that a run began with, which no step changes; the server and the clients, by their numbers; and
-- what each step noted, the newest first. A proxy has no state here.
pub record WorldState : Type 0 where
  pub minted : List Minted
  pub first : Tree
  pub server : ServerState
  pub clients : List ClientState
  pub notes : List Noted
