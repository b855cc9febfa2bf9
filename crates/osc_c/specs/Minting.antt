-- Minting by numbers and bytes.
use Rattle.std.specs.Prelude.{◌≡◌, ◌⊎◌}
use Rattle.osc_ccm.specs.{Sealing}
use Rattle.osc_token.specs.declared.claims.Claims.{Claims}
use Rattle.osc_c.specs.Filling.{Room}
use Rattle.osc_c.specs.Given.{GivenClaims}
use Rattle.osc_c.specs.Tokens.{AreClaims, FitsClaims, IsNoClaims, KeyAndIv, Mints}
use Rattle.osc_c.specs.declared.calls.outcome.Outcome.{Outcome}
use Rattle.osc_c.specs.declared.calls.plain.PlainClaims.{PlainClaims}

-- under what a token of these claims is sealed
abbrev pub sealed_under : PlainClaims → KeyAndIv
sealed_under claims = record { key = claims.key.bytes; iv = claims.iv.bytes }

-- A token of these claims is minted, or isn't; or they are none. In the latter two cases nothing is written.
abbrev pub MintsBy : Sealing → KeyAndIv → GivenClaims → Room → Outcome → Room → Type 0
MintsBy is_sealing under given room outcome filled =
    ((claims : Claims) × FitsClaims given × AreClaims given claims × Mints is_sealing under claims room outcome filled)
    ⊎ (IsNoClaims given outcome × (filled.bytes ≡ room.bytes) × (filled.size ≡ room.size))
