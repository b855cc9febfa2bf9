-- Who can be enrolled, what he is granted, and why claims are refused.
use Rattle.std.specs.Prelude.{◌≡◌, ◌≤◌, ℕ, List, length, ⊤}
use Rattle.std.specs.Option.{ForSome}
use Rattle.osc_cbor.specs.{spelling}
use Rattle.osc_scope.specs.{Entry, IsScope}
use Rattle.osc_scope.specs.declared.error.ScopeError.{ScopeError}
use Rattle.osc_scope.specs.declared.error.ScopeError.TheVariants as scope
use Rattle.osc_token.specs.{most_claims, claims_item}
use Rattle.osc_token.specs.declared.claims.Claims.{Claims}
use Rattle.osc_token.specs.declared.claims.InputMaterial.{InputMaterial}
use Rattle.osc_token.specs.declared.error.MintError.{MintError}
use Rattle.osc_token.specs.declared.error.MintError.TheVariants as mint
use Rattle.osc_authz.specs.Granted.{IsSecret, IsShort}
use Rattle.osc_authz.specs.declared.enrolling.EnrollError.{EnrollError}
use Rattle.osc_authz.specs.declared.enrolling.EnrollError.TheVariants as enroll
use Rattle.osc_authz.specs.declared.error.GrantError.{GrantError}
use Rattle.osc_authz.specs.declared.error.GrantError.TheVariants as grant
use Rattle.osc_authz.specs.declared.granted.ClientDesk.{ClientDesk}

-- the bytes of the claims' scope are a scope
abbrev pub HasScope : Claims → Type 0
HasScope claims = (entries : List Entry) × IsScope claims.scope entries

-- the claims' text is as short as the cipher asks (RFC 3610 section 2.2)
abbrev pub FitAToken : Claims → Type 0
FitAToken claims = length (spelling (claims_item claims)) ≤ most_claims

-- the first part of the input material that has a length that no token may have (RFC 9203 section 3.2.1)
abbrev pub IsUngranted : InputMaterial → GrantError → Type 0
IsUngranted material grant.Secret = ¬ (IsSecret material.secret)
IsUngranted material grant.Salt = IsSecret material.secret × ¬ (IsShort material.salt)
IsUngranted material grant.IdContext = IsSecret material.secret × IsShort material.salt × ¬ (ForSome material.id_context IsShort)

-- a client with these claims can be enrolled
pub record IsLawful (claims : Claims) : Type 0 where
  pub scope : HasScope claims
  pub fits : FitAToken claims
  pub secret : IsSecret claims.material.secret
  pub salt : IsShort claims.material.salt
  pub id_context : ForSome claims.material.id_context IsShort

-- Why it can't be: the scope, then the length, then the input material; memory may run out whatever the claims are.
abbrev pub IsRefusal : Claims → EnrollError → Type 0
IsRefusal claims enroll.BadScope = ¬ (HasScope claims)
IsRefusal claims enroll.TooLong = HasScope claims × ¬ (FitAToken claims)
IsRefusal claims (enroll.Grant error) = HasScope claims × FitAToken claims × IsUngranted claims.material error
IsRefusal claims enroll.Memory = ⊤

-- what the holder of a token with this input material is granted
pub record IsDeskOf (material : InputMaterial) (token : List ℕ) (desk : ClientDesk) : Type 0 where
  pub token_is : desk.token ≡ token
  pub secret : desk.secret ≡ material.secret
  pub salt : desk.salt ≡ material.salt
  pub id_context : desk.id_context ≡ material.id_context
  pub alg : desk.alg ≡ material.alg

-- ---- the refusals of what reads a scope and mints a token, as those of enrolment

abbrev pub of_scope : ScopeError → EnrollError
of_scope scope.BadScope = enroll.BadScope
of_scope scope.Memory = enroll.Memory

abbrev pub of_mint : MintError → EnrollError
of_mint mint.TooLong = enroll.TooLong
of_mint mint.Memory = enroll.Memory
