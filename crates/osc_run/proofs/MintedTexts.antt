-- What the text of minted claims gives.
use Rattle.std.proofs.Common.{◌≡◌, List, ℕ, Ok, sym, ap, ◌∙◌, arith}
use Rattle.osc_model.specs.Grant.{Grant}
use Rattle.osc_model.specs.Scope.{Scope}
use Rattle.osc_model.specs.declared.node.Moment.{Moment}
use Rattle.osc_cbor.specs.{spelling}
use Rattle.osc_scope.specs.{Entry, IsScope, scope_of}
use Rattle.osc_token.specs.{ComesTo, FitTheirTypes, HasLawfulParts, claims_item}
use Rattle.osc_token.specs.declared.claims.Claims.{Claims}
use Rattle.osc_run.specs.{IsTextOf}

-- it gives the claims, or nothing
abbrev pub MintedLaw : Type 0
MintedLaw =
    (claims read : Claims) (entries : List Entry) (granted : Scope) (audience : List ℕ) (now : Moment)
    → FitTheirTypes claims → IsScope claims.scope entries
    → ComesTo (spelling (claims_item claims)) audience now (Ok (read, granted))
    → (read ≡ claims) × (granted ≡ scope_of entries)

pub minted_text : MintedLaw → (claims : Claims) (entries : List Entry) (grant : Grant) → FitTheirTypes claims → IsScope claims.scope entries
    → grant.id ≡ claims.material.id → grant.secret ≡ claims.material.secret → grant.scope ≡ scope_of entries → grant.not_before ≡ claims.not_before → grant.expires ≡ claims.expires
    → IsTextOf grant (spelling (claims_item claims))
minted_text law claims entries grant fit is_scope id secret scope not_before expires = λ audience now read granted comes.
    let is = law claims read entries granted audience now fit is_scope comes in
    record {
      id = ap (λ (c : Claims). c.material.id) is.0 ∙ sym id;
      secret = ap (λ (c : Claims). c.material.secret) is.0 ∙ sym secret;
      scope = is.1 ∙ sym scope;
      not_before = ap (λ (c : Claims). c.not_before) is.0 ∙ sym not_before;
      expires = ap (λ (c : Claims). c.expires) is.0 ∙ sym expires;
    }

-- claims that a reader takes fit their types
pub lawful_fit : (claims : Claims) → HasLawfulParts claims → FitTheirTypes claims
lawful_fit claims h = record {
  audience = h.audience;
  not_before = h.not_before;
  expires = h.expires;
  id = omega (arith, h.id);
  secret = omega (arith, h.secret.1);
  salt = omega (arith, h.salt);
  id_context = λ bytes e. omega (arith, h.id_context bytes e);
  scope = h.scope;
}
