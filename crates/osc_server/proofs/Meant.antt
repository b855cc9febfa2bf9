-- The context that a request means is the one that it names.
use Rattle.std.proofs.Common.{◌≡◌, ℕ, Bool, true, false, ◌&&◌, if◌then◌else◌, List, Option, Some, None, refl, sym, ap, subst}
use Rattle.std.specs.Option.{ForSome, option_map_or}
use Rattle.std.specs.Str.{bytes_eq}
use Rattle.std.proofs.lemmas.Bool.{and_parts}
use Rattle.std.proofs.lemmas.Slice.Eq.{bytes_eq-Decides}
use Rattle.osc_authz.specs.{if_meant, is_live, is_named}
use Rattle.osc_authz.specs.SecurityContext.{SecurityContext}
use Rattle.osc_authz.specs.Standing.{Standing}

named_so : (bytes : List ℕ) (own : Option (List ℕ)) → option_map_or (bytes_eq bytes) own false ≡ true → own ≡ Some bytes
named_so bytes None e = absurd (cc)
named_so bytes (Some own) e = ap (λ (x : List ℕ). Some x) (sym ((bytes_eq-Decides bytes own).0 e))

names_it : (kid_context : Option (List ℕ)) (held : SecurityContext) → is_named kid_context held ≡ true → ForSome kid_context (λ bytes. held.name.id_context ≡ Some bytes)
names_it None held e = λ bytes is. absurd (cc)
names_it (Some bytes) held e = λ own is. let same : bytes ≡ own = cc in subst (λ (b : List ℕ). held.name.id_context ≡ Some b) same (named_so bytes held.name.id_context e)

passed : (b : Bool) (d held : SecurityContext) → (if b then Some d else None) ≡ Some held → (b ≡ true) × (d ≡ held)
passed true d held e = (refl, cc)
passed false d held e = absurd (cc)

-- by its kid context, where the request has one
pub kid_context_is : (on : Standing) (kid_context : Option (List ℕ)) (found : Option SecurityContext) (held : SecurityContext) → if_meant on kid_context found ≡ Some held
    → ForSome kid_context (λ bytes. held.name.id_context ≡ Some bytes)
kid_context_is on kid_context None held e = absurd (cc)
kid_context_is on kid_context (Some d) held e =
    let p = passed (is_live on d && is_named kid_context d) d held e in
    subst (λ (c : SecurityContext). ForSome kid_context (λ bytes. c.name.id_context ≡ Some bytes)) p.1
    (names_it kid_context d (and_parts (is_live on d) (is_named kid_context d) p.0).1)
