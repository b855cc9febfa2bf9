-- A token that a server accepts at this moment, under its key or under its old key.
use Rattle.std.specs.Prelude.{List, ℕ}
use Rattle.osc_scope.specs.{Entry}
use Rattle.osc_token.specs.declared.claims.Claims.{Claims}
use Rattle.osc_authz.specs.{DeskState, IsKeyFor, IsWelcome}
use Rattle.osc_authz.specs.Standing.{Standing}
use Rattle.osc_authz.specs.declared.granted.ClientDesk.{ClientDesk}

-- the desk, if this were its key
abbrev pub with_key : List ℕ → DeskState → DeskState
with_key key desk = record desk { key = key }

-- The desk opens the client's token with this key, which is its key, or its old key, where the token doesn't open under its key; and the
-- token would be welcome if this were its key.
pub record IsWelcomeUnder (is_sealing : List ℕ → List ℕ → List ℕ → List ℕ → List ℕ → Type 0) (key : List ℕ) (desk : DeskState) (on : Standing) (claims : Claims) (entries : List Entry) (holder : ClientDesk) : Type 0 where
  pub opens : IsKeyFor is_sealing desk holder.token key
  pub welcome : IsWelcome is_sealing (with_key key desk) on claims entries holder
