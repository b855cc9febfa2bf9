-- Tokens that are minted.
use Rattle.std.proofs.Common.{◌≡◌, ℕ, ◌<◌, [], length, inl, inr, refl, arith}
use Rattle.osc_ccm.specs.{IsTooLong}
use Rattle.osc_cbor.specs.{head}
use Rattle.osc_cose.specs.{enc_structure}
use Rattle.osc_token.specs.{most_claims, algorithm_header}

aad_length : length (enc_structure algorithm_header []) ≡ 15
unfolding enc_structure head
aad_length = refl

-- the associated data is short, so it is the text that is too long
pub text_too_long : (text_length : ℕ) → IsTooLong text_length (length (enc_structure algorithm_header [])) → most_claims < text_length
text_too_long text_length (inl long) = long
text_too_long text_length (inr long) = absurd (omega (arith, aad_length, long))
