-- Claims that can be minted, and that are read again.
use Rattle.std.specs.Prelude.{ℕ, ◌≤◌, ◌<◌, ◌^◌, length}
use Rattle.std.specs.Option.{ForSome}
use Rattle.std.specs.Str.{IsUtf8}
use Rattle.osc_token.specs.declared.claims.Claims.{Claims}

-- The most bytes that the text of claims may have: the cipher writes their number in 2 bytes (RFC 3610 section 2.2).
abbrev pub most_claims : ℕ
most_claims = 65535

-- They fit the types of their parts, and may be longer than a reader takes.
pub record FitTheirTypes (claims : Claims) : Type 0 where
  pub audience : IsUtf8 claims.audience × (length claims.audience < 2 ^ 64)
  pub not_before : ForSome claims.not_before (λ seconds. seconds < 2 ^ 64)
  pub expires : ForSome claims.expires (λ seconds. seconds < 2 ^ 64)
  pub id : length claims.material.id < 2 ^ 64
  pub secret : length claims.material.secret < 2 ^ 64
  pub salt : length claims.material.salt < 2 ^ 64
  pub id_context : ForSome claims.material.id_context (λ bytes. length bytes < 2 ^ 64)
  pub scope : length claims.scope < 2 ^ 64

-- They have the lengths that a reader asks for.
pub record HasLawfulParts (claims : Claims) : Type 0 where
  pub audience : IsUtf8 claims.audience × (length claims.audience < 2 ^ 64)
  pub not_before : ForSome claims.not_before (λ seconds. seconds < 2 ^ 64)
  pub expires : ForSome claims.expires (λ seconds. seconds < 2 ^ 64)
  pub id : length claims.material.id ≤ 64
  pub secret : (1 ≤ length claims.material.secret) × (length claims.material.secret ≤ 64)
  pub salt : length claims.material.salt ≤ 64
  pub id_context : ForSome claims.material.id_context (λ bytes. length bytes ≤ 64)
  pub scope : length claims.scope < 2 ^ 64
