-- A token that a server accepts at this moment (RFC 9200 section 5.10.1, RFC 9203 section 4).
use Rattle.std.specs.Prelude.{◌≡◌, ℕ, true, false, List}
use Rattle.osc_model.specs.{HasBegun, IsNotOver, is_revoked}
use Rattle.osc_scope.specs.{Entry, scope_of}
use Rattle.osc_token.specs.{HasLawfulParts}
use Rattle.osc_token.specs.declared.claims.Claims.{Claims}
use Rattle.osc_authz.specs.Agreement.{is_allowed}
use Rattle.osc_authz.specs.Desk.{DeskState}
use Rattle.osc_authz.specs.HoldsToken.{HoldsToken}
use Rattle.osc_authz.specs.Standing.{Standing}
use Rattle.osc_authz.specs.Table.{alive, IsFull}
use Rattle.osc_authz.specs.declared.granted.ClientDesk.{ClientDesk}

-- The client's token was minted under the desk's key, for its audience, with claims of the lengths that a reader asks for, and is in
-- its time. The desk takes its scope. Its id isn't revoked, and has a live context, or there is room for it beside those that have one.
pub record IsWelcome (is_sealing : List ℕ → List ℕ → List ℕ → List ℕ → List ℕ → Type 0) (desk : DeskState) (on : Standing) (claims : Claims) (entries : List Entry) (holder : ClientDesk) : Type 0 where
  pub holds : HoldsToken is_sealing desk.key claims entries holder
  pub lawful : HasLawfulParts claims
  pub audience : claims.audience ≡ desk.audience
  pub begun : HasBegun claims.not_before on.at
  pub not_over : IsNotOver claims.expires on.at
  pub allowed : is_allowed desk.rules (scope_of entries) ≡ true
  pub unrevoked : is_revoked desk.rules.revoked on.tree claims.material.id ≡ false
  pub room : ¬ IsFull desk.rules.reserved claims.material.id (alive on desk.table)
