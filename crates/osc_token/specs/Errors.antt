-- The numbers of the refusals.
use Rattle.std.specs.Prelude.{ℕ}
use Rattle.osc_model.specs.Refusals as refusal
use Rattle.osc_token.specs.declared.error.TokenError.{TokenError}
use Rattle.osc_token.specs.declared.error.TokenError.TheVariants as token
use Rattle.osc_token.specs.declared.error.MintError.{MintError}
use Rattle.osc_token.specs.declared.error.MintError.TheVariants as mint

abbrev pub token_number : TokenError → ℕ
token_number token.NotGenuine = refusal.token_not_genuine
token_number token.BadClaims = refusal.bad_claims
token_number token.NotYet = refusal.not_yet
token_number token.Expired = refusal.expired
token_number token.Audience = refusal.audience
token_number token.BadScope = refusal.bad_scope

abbrev pub mint_number : MintError → ℕ
mint_number mint.TooLong = refusal.too_long
mint_number mint.Memory = refusal.memory
