-- What the text of minted claims gives, whatever their lengths: the claims alone.
use Rattle.std.proofs.Common.{◌≡◌, ◌⊎◌, inl, inr, ℕ, List, [], ◌∷◌, Option, Some, None, Result, Ok, refl, sym, ap, ◌∙◌, subst, arith}
use Rattle.std.specs.Option.{option_map}
use Rattle.osc_model.specs.Scope.{Scope}
use Rattle.osc_model.specs.declared.node.Moment.{Moment}
use Rattle.osc_model.specs.{algorithm_number}
use Rattle.osc_model.specs.declared.algorithm.Algorithm.{Algorithm}
use Rattle.osc_model.specs.declared.algorithm.Algorithm.TheVariants.{EightByteTag, SixteenByteTag}
use Rattle.osc_cbor.specs.{DataItem, unsigned, byte_string, text_string, map, value_under, value, Spells}
use Rattle.osc_scope.specs.{Entry, IsScope, scope_of}
use Rattle.osc_token.specs.{Dated, IsClaims, HasMaterial, HasScope, ComesTo, claims_item}
use Rattle.osc_token.specs.declared.claims.Claims.{Claims}
use Rattle.osc_token.specs.declared.claims.InputMaterial.{InputMaterial}
use Rattle.osc_token.specs.declared.error.TokenError.{TokenError}
use Rattle.osc_token.proofs.FieldLemmas.{fields, value_at}
use Rattle.osc_token.proofs.MintedLemmas.{alg_value, salt_value, material_fields, material_is, confirmation, claims_fields, claims_are}

same_date : (a b : Option ℕ) → option_map unsigned a ≡ option_map unsigned b → a ≡ b
same_date None None e = refl
same_date None (Some n) e = absurd (cc)
same_date (Some m) None e = absurd (cc)
same_date (Some m) (Some n) e = cc

same_context : (a b : Option (List ℕ)) → option_map byte_string a ≡ option_map byte_string b → a ≡ b
same_context None None e = refl
same_context None (Some n) e = absurd (cc)
same_context (Some m) None e = absurd (cc)
same_context (Some m) (Some n) e = cc

same_salt : (a b : List ℕ) → (salt_value b ≡ Some (byte_string a)) ⊎ ((salt_value b ≡ None) × (a ≡ [])) → a ≡ b
same_salt a [] (inl e) = absurd (cc)
same_salt a [] (inr e) = e.1
same_salt a (x ∷ xs) (inl e) = cc
same_salt a (x ∷ xs) (inr e) = absurd (cc e.0)

same_alg : (a b : Algorithm) → (alg_value b ≡ Some (unsigned (algorithm_number a))) ⊎ ((alg_value b ≡ None) × (a ≡ EightByteTag)) → a ≡ b
same_alg a EightByteTag (inl e) = absurd (cc)
same_alg a EightByteTag (inr e) = e.1
same_alg EightByteTag SixteenByteTag (inl e) = let no : ◌≡◌ {A = ℕ} 30 10 = cc in absurd (omega (arith, no))
same_alg SixteenByteTag SixteenByteTag (inl e) = refl
same_alg a SixteenByteTag (inr e) = absurd (cc e.0)

same_item : (a b : DataItem) → Some a ≡ Some b → a ≡ b
same_item a b e = cc

same_bytes : (a b : List ℕ) → Some (byte_string a) ≡ Some (byte_string b) → a ≡ b
same_bytes a b e = cc

same_text : (a b : List ℕ) → Some (text_string a) ≡ Some (text_string b) → a ≡ b
same_text a b e = cc

abbrev ok : Claims × Scope → Result (Claims × Scope) TokenError
ok x = Ok x

same_outcome : (a b : Claims × Scope) → ok a ≡ ok b → a ≡ b
same_outcome a b e = cc

same_material : (m n : InputMaterial) → m.id ≡ n.id → m.secret ≡ n.secret → m.salt ≡ n.salt → m.id_context ≡ n.id_context → m.alg ≡ n.alg → m ≡ n
same_material m n id secret salt context alg = λ i. record { id = id i; secret = secret i; salt = salt i; id_context = context i; alg = alg i }

same_claims : (a b : Claims) → a.audience ≡ b.audience → a.not_before ≡ b.not_before → a.expires ≡ b.expires → a.material ≡ b.material → a.scope ≡ b.scope → a ≡ b
same_claims a b audience nbf exp material scope =
    λ i. record { audience = audience i; not_before = nbf i; expires = exp i; material = material i; scope = scope i }

module _ (c : Claims) (its_entries : List Entry) (text : List ℕ)
    (one_item : (d e : DataItem) → Spells text d → Spells text e → d ≡ e)
    (one_list : (bytes : List ℕ) (entries others : List Entry) → IsScope bytes entries → IsScope bytes others → entries ≡ others)
    (spelled : Spells text (claims_item c)) (is_scope : IsScope c.scope its_entries) where
  module _ (audience : List ℕ) (said : Dated) (m : InputMaterial) (bytes : List ℕ) (entries : List Entry)
      (reads : IsClaims text said) (addressed : value_under 3 said.claims ≡ Some (text_string audience))
      (has : HasMaterial said.claims m) (scoped : HasScope said.claims bytes entries) where
    pairs_are : map said.claims ≡ map (fields (claims_fields c))
    pairs_are = one_item (map said.claims) (claims_item c) reads.whole.spelled spelled ∙ claims_are c.audience c.not_before c.expires c.material c.scope

    under : (label : ℕ) → value_under label said.claims ≡ value_under label (fields (claims_fields c))
    under label = ap (value label) pairs_are

    confirmed : map has.confirmation ≡ confirmation c.material
    confirmed = same_item _ _ (sym has.confirms ∙ under 8 ∙ value_at 8 0 (claims_fields c) refl)

    fields_are : map has.fields ≡ map (fields (material_fields c.material))
    fields_are =
        same_item _ _ (sym has.osc ∙ ap (value 4) confirmed)
        ∙ material_is c.material.id c.material.secret c.material.salt c.material.id_context c.material.alg

    in_fields : (label : ℕ) → value_under label has.fields ≡ value_under label (fields (material_fields c.material))
    in_fields label = ap (value label) fields_are

    salt_at : value_under 5 has.fields ≡ salt_value c.material.salt
    salt_at = in_fields 5 ∙ value_at 5 0 (material_fields c.material) refl

    salt_read : (value_under 5 has.fields ≡ Some (byte_string m.salt)) ⊎ ((value_under 5 has.fields ≡ None) × (m.salt ≡ []))
        → (salt_value c.material.salt ≡ Some (byte_string m.salt)) ⊎ ((salt_value c.material.salt ≡ None) × (m.salt ≡ []))
    salt_read (inl e) = inl (sym salt_at ∙ e)
    salt_read (inr e) = inr (sym salt_at ∙ e.0, e.1)

    alg_at : value_under 4 has.fields ≡ alg_value c.material.alg
    alg_at = in_fields 4 ∙ value_at 4 0 (material_fields c.material) refl

    alg_read : (value_under 4 has.fields ≡ Some (unsigned (algorithm_number m.alg))) ⊎ ((value_under 4 has.fields ≡ None) × (m.alg ≡ EightByteTag))
        → (alg_value c.material.alg ≡ Some (unsigned (algorithm_number m.alg))) ⊎ ((alg_value c.material.alg ≡ None) × (m.alg ≡ EightByteTag))
    alg_read (inl e) = inl (sym alg_at ∙ e)
    alg_read (inr e) = inr (sym alg_at ∙ e.0, e.1)

    material : m ≡ c.material
    material =
        same_material m c.material
        (same_bytes _ _ (sym has.is_material.id ∙ in_fields 0 ∙ value_at 0 0 (material_fields c.material) refl))
        (same_bytes _ _ (sym has.is_material.secret ∙ in_fields 2 ∙ value_at 2 0 (material_fields c.material) refl))
        (same_salt m.salt c.material.salt (salt_read has.is_material.salt))
        (same_context m.id_context c.material.id_context (sym has.is_material.id_context ∙ in_fields 6 ∙ value_at 6 0 (material_fields c.material) refl))
        (same_alg m.alg c.material.alg (alg_read has.is_material.algorithm))

    scope_bytes : bytes ≡ c.scope
    scope_bytes = same_bytes _ _ (sym scoped.scope ∙ under 9 ∙ value_at 9 0 (claims_fields c) refl)

    read_of : Claims
    read_of = record { audience = audience; not_before = said.not_before; expires = said.expires; material = m; scope = bytes }

    found : (read_of ≡ c) × (scope_of entries ≡ scope_of its_entries)
    unfolding read_of
    found = (
      same_claims read_of c
          (same_text _ _ (sym addressed ∙ under 3 ∙ value_at 3 0 (claims_fields c) refl))
          (same_date said.not_before c.not_before (sym reads.not_before ∙ under 5 ∙ value_at 5 0 (claims_fields c) refl))
          (same_date said.expires c.expires (sym reads.expires ∙ under 4 ∙ value_at 4 0 (claims_fields c) refl))
          material
          scope_bytes,
      ap scope_of (one_list c.scope entries its_entries (subst (λ b. IsScope b entries) scope_bytes scoped.is_scope) is_scope),
    )

  comes_to : (audience : List ℕ) (now : Moment) (read : Claims) (granted : Scope) → ComesTo text audience now (Ok (read, granted))
      → (read ≡ c) × (granted ≡ scope_of its_entries)
  unfolding read_of
  comes_to audience now read granted (ComesTo.unreadable none e) = absurd (cc)
  comes_to audience now read granted (ComesTo.not_yet said reads early e) = absurd (cc)
  comes_to audience now read granted (ComesTo.expired said reads begun late e) = absurd (cc)
  comes_to audience now read granted (ComesTo.for_another said in_time other e) = absurd (cc)
  comes_to audience now read granted (ComesTo.no_material said for_it none e) = absurd (cc)
  comes_to audience now read granted (ComesTo.no_scope said m bound none e) = absurd (cc)
  comes_to audience now read granted (ComesTo.granted said m bytes entries bound has e) =
      let all = found audience said m bytes entries bound.for_it.in_time.readable bound.for_it.addressed bound.bound has in
      let same = same_outcome (read, granted) _ e in
      (ap (λ x. x.0) same ∙ all.0, ap (λ x. x.1) same ∙ all.1)

pub alone : (c : Claims) (its_entries : List Entry) (text : List ℕ)
    → ((d e : DataItem) → Spells text d → Spells text e → d ≡ e)
    → ((bytes : List ℕ) (entries others : List Entry) → IsScope bytes entries → IsScope bytes others → entries ≡ others)
    → Spells text (claims_item c) → IsScope c.scope its_entries
    → (audience : List ℕ) (now : Moment) (read : Claims) (granted : Scope) → ComesTo text audience now (Ok (read, granted))
    → (read ≡ c) × (granted ≡ scope_of its_entries)
alone c its_entries text one_item one_list spelled is_scope = comes_to c its_entries text one_item one_list spelled is_scope
