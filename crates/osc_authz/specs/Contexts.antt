-- What becomes of a server's contexts in a step.
use Rattle.std.specs.Prelude.{◌≡◌, ◌≢◌, ◌⊎◌, ℕ, Bool, true, false, List, [], ◌∷◌, ◌++◌, Option, Some, None}
use Rattle.osc_model.specs.{HasBegun, IsNotOver, stands}
use Rattle.osc_authz.specs.SecurityContext.{SecurityContext}
use Rattle.osc_authz.specs.Standing.{Standing}
use Rattle.osc_authz.specs.Table.{taking}
use Rattle.osc_authz.specs.Members.{In}
use Rattle.osc_authz.specs.declared.token_entry.TokenEntry.{TokenEntry}

-- ---- the contexts of token ids

-- A context, the id of the token that made it, and whether it is confirmed: whether a request has opened under it.
pub record OfToken : Type 0 where
  pub token : List ℕ
  pub is_confirmed : Bool
  pub held : SecurityContext

-- the confirmed one of a token id, and the pending one
abbrev pub confirmed_of : List ℕ → SecurityContext → OfToken
confirmed_of token held = record { token = token; is_confirmed = true; held = held }

abbrev pub pending_of : List ℕ → SecurityContext → OfToken
pending_of token held = record { token = token; is_confirmed = false; held = held }

-- the one in a place of a token id, if it is there
abbrev pub of_token : List ℕ → Bool → Option SecurityContext → List OfToken
of_token token is_confirmed None = []
of_token token is_confirmed (Some held) = (record { token = token; is_confirmed = is_confirmed; held = held }) ∷ []

-- those of a table, by its token ids
abbrev pub of_tokens : List TokenEntry → List OfToken
of_tokens [] = []
of_tokens (entry ∷ table) = of_token entry.id true entry.confirmed ++ of_token entry.id false entry.pending ++ of_tokens table

-- it is the confirmed one of a token id, or the pending one
abbrev pub IsConfirmedOf : List ℕ → OfToken → Type 0
IsConfirmedOf token context = (context.token ≡ token) × (context.is_confirmed ≡ true)

abbrev pub IsPendingOf : List ℕ → OfToken → Type 0
IsPendingOf token context = (context.token ≡ token) × (context.is_confirmed ≡ false)

-- the same once a request of this number has opened under it
abbrev pub confirmed_by : ℕ → OfToken → OfToken
confirmed_by number context = confirmed_of context.token (taking number context.held)

-- ---- what stays, comes and goes

-- It is the time of the context's token, which isn't revoked, and the context isn't too old.
pub record IsLive (on : Standing) (held : SecurityContext) : Type 0 where
  pub begun : HasBegun held.not_before on.at
  pub not_over : IsNotOver held.expires on.at
  pub unrevoked : stands on.tree held.revocation ≡ false
  pub young : IsNotOver held.ends on.at

-- No context is added, and none changes. Each that lives stays.
pub record AreKept (on : Standing) (old new : List OfToken) : Type 0 where
  pub only : (c : OfToken) → In c new → In c old
  pub live : (c : OfToken) → In c old → IsLive on c.held → In c new

-- One of this token id is added, pending, in the place of the pending one of that id. None changes, and each other that lives
-- stays.
pub record HasAdded (on : Standing) (token : List ℕ) (added : SecurityContext) (old new : List OfToken) : Type 0 where
  pub only : (c : OfToken) → In c new → (c ≡ pending_of token added) ⊎ In c old
  pub here : In (pending_of token added) new
  pub replaced : (c : OfToken) → In c new → IsPendingOf token c → c ≡ pending_of token added
  pub live : (c : OfToken) → In c old → IsLive on c.held → In c new ⊎ IsPendingOf token c

-- One of them takes a number into its window and is confirmed, in the place of an older confirmed one of its token id. No other
-- changes or has its name, and each other that lives stays.
pub record HasTaken (on : Standing) (number : ℕ) (context : OfToken) (old new : List OfToken) : Type 0 where
  pub only : (c : OfToken) → In c new → (c ≡ confirmed_by number context) ⊎ (In c old × (c.held.name ≢ context.held.name))
  pub here : In (confirmed_by number context) new
  pub older_gone : (c : OfToken) → In c new → IsConfirmedOf context.token c → c ≡ confirmed_by number context
  pub live : (c : OfToken) → In c old → IsLive on c.held → In c new ⊎ ((c ≡ context) ⊎ IsConfirmedOf context.token c)
