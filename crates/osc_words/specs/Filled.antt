-- The claims of a token with the secret among them.
use Rattle.std.specs.Prelude.{ℕ, List, option_map}
use Rattle.osc_token.specs.declared.claims.Claims.{Claims}
use Rattle.osc_words.specs.Times.{second_of}
use Rattle.osc_words.specs.declared.token_words.OpenClaims.{OpenClaims}

-- of a token that is issued at this second
abbrev pub with_secret : OpenClaims → ℕ → List ℕ → Claims
with_secret claims now secret = record {
  audience = claims.audience;
  not_before = claims.not_before;
  expires = option_map (second_of now) claims.expires;
  material = record { id = claims.id; secret = secret; salt = claims.salt; id_context = claims.id_context; alg = claims.alg };
  scope = claims.scope;
}
