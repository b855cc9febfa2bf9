-- Protected requests: what names a context.
use Rattle.std.proofs.Common.{◌≡◌, ℕ, Bool, true, false, List, Option, Some, None, refl, subst, sym, ap}
use Rattle.std.specs.Prelude.{◌&&◌, if◌then◌else◌, bytes_eq}
use Rattle.std.specs.Option.{ForSome, option_map_or}
use Rattle.std.proofs.lemmas.Option.{same_Some}
use Rattle.std.proofs.lemmas.Slice.Eq.{bytes_eq-Decides}
use Rattle.osc_protect.specs.{SealedRequest, IsFor}
use Rattle.osc_authz.specs.SecurityContext.{SecurityContext}
use Rattle.osc_authz.specs.Standing.{Standing}
use Rattle.osc_authz.specs.{if_meant, is_live, is_named, meant, with_id}
use Rattle.osc_authz.specs.declared.token_entry.TokenEntry.{TokenEntry}

pub record IsFound (on : Standing) (kid_context : Option (List ℕ)) (found : Option SecurityContext) (held : SecurityContext) : Type 0 where
  pub same : found ≡ Some held
  pub named : is_named kid_context held ≡ true

both : (a b : Bool) → a && b ≡ true → b ≡ true
both true b e = e
both false b e = absurd (cc)

found_if : (on : Standing) (kid_context : Option (List ℕ)) (other held : SecurityContext) (b : Bool) → (b ≡ true → is_named kid_context other ≡ true) → (if b then Some other else None) ≡ Some held → IsFound on kid_context (Some other) held
found_if on kid_context other held true named e =
    let same : other ≡ held = same_Some other held e in
    record { same = e; named = subst (λ it. is_named kid_context it ≡ true) same (named refl) }
found_if on kid_context other held false named e = absurd (cc)

found_by : (on : Standing) (kid_context : Option (List ℕ)) (found : Option SecurityContext) (held : SecurityContext) → if_meant on kid_context found ≡ Some held → IsFound on kid_context found held
found_by on kid_context None held e = absurd (cc)
found_by on kid_context (Some other) held e =
    found_if on kid_context other held (is_live on other && is_named kid_context other)
    (both (is_live on other) (is_named kid_context other)) e

pub is_found : (on : Standing) (kid : List ℕ) (kid_context : Option (List ℕ)) (table : List TokenEntry) (held : SecurityContext) → meant on kid kid_context table ≡ Some held → IsFound on kid_context (with_id kid table) held
is_found on kid kid_context table held e = found_by on kid_context (with_id kid table) held e

same_context : (kid_context : List ℕ) (id_context : Option (List ℕ)) → option_map_or (bytes_eq kid_context) id_context false ≡ true → id_context ≡ Some kid_context
same_context kid_context None e = absurd (cc)
same_context kid_context (Some bytes) e = ap Some (sym ((bytes_eq-Decides kid_context bytes).0 e))

named_context : (kid_context : Option (List ℕ)) (held : SecurityContext) → is_named kid_context held ≡ true → ForSome kid_context (λ bytes. held.name.id_context ≡ Some bytes)
named_context None held e = λ bytes same. absurd (cc)
named_context (Some kid_context) held e = λ bytes same.
    subst (λ it. held.name.id_context ≡ Some it) (same_Some kid_context bytes same) (same_context kid_context held.name.id_context e)

pub meant_for : (on : Standing) (request : SealedRequest) (table : List TokenEntry) (held : SecurityContext) → meant on request.kid request.kid_context table ≡ Some held → held.name.client_id ≡ request.kid → IsFor held.name request
meant_for on request table held e kid = record {
  kid = sym kid;
  kid_context = named_context request.kid_context held (is_found on request.kid request.kid_context table held e).named;
}
