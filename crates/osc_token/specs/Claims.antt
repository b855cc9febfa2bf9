-- The claims of a token (RFC 8392 section 3.1), by the names of the standards: aud 3, exp 4, nbf 5, cnf 8 with the key
-- osc 4 (RFC 8747 section 3.1, RFC 9203 section 3.2.1), scope 9 (RFC 9200 section 5.8.1). Other claims are ignored.
use Rattle.std.specs.Prelude.{◌≡◌, ◌≢◌, ◌⊎◌, ℕ, ◌≤◌, List, [], length, Option, Some, None, option_map, Result, Ok, Err}
use Rattle.std.specs.Option.{ForSome}
use Rattle.osc_model.specs.{algorithm_number, HasBegun, IsNotOver}
use Rattle.osc_model.specs.Scope.{Scope}
use Rattle.osc_model.specs.declared.algorithm.Algorithm.TheVariants.{EightByteTag}
use Rattle.osc_model.specs.declared.node.Moment.{Moment}
use Rattle.osc_cbor.specs.{DataItem, unsigned, negative, byte_string, text_string, map, Pairs, value_under, IsWhole}
use Rattle.osc_scope.specs.{Entry, IsScope, scope_of}
use Rattle.osc_token.specs.declared.claims.Claims.{Claims}
use Rattle.osc_token.specs.declared.claims.InputMaterial.{InputMaterial}
use Rattle.osc_token.specs.declared.error.TokenError.{TokenError}
use Rattle.osc_token.specs.declared.error.TokenError.TheVariants.{BadClaims, NotYet, Expired, Audience, BadScope}

-- the pairs of a token's claims, and its dates in whole seconds
pub record Dated : Type 0 where
  pub claims : Pairs
  pub not_before : Option ℕ
  pub expires : Option ℕ

-- The text is a map, whose dates are numbers where they are there.
pub record IsClaims (text : List ℕ) (said : Dated) : Type 0 where
  pub whole : IsWhole text (map said.claims)
  pub not_before : value_under 5 said.claims ≡ option_map unsigned said.not_before
  pub expires : value_under 4 said.claims ≡ option_map unsigned said.expires

-- a value that may be absent, and is this where it is there
abbrev pub IsAbsentOr : DataItem → Option DataItem → Type 0
IsAbsentOr expected value = (value ≡ None) ⊎ (value ≡ Some expected)

-- OSCORE_Input_Material: id 0, version 1, ms 2, hkdf 3, alg 4, salt 5, contextId 6. The version is 1, the hash SHA-256, the
-- cipher one of two, AES-CCM-16-64-128 where no cipher is named, and an absent salt is an empty one.
pub record IsMaterial (fields : Pairs) (material : InputMaterial) : Type 0 where
  pub id : value_under 0 fields ≡ Some (byte_string material.id)
  pub id_size : length material.id ≤ 64
  pub version : IsAbsentOr (unsigned 1) (value_under 1 fields)
  pub secret : value_under 2 fields ≡ Some (byte_string material.secret)
  pub secret_size : (1 ≤ length material.secret) × (length material.secret ≤ 64)
  pub hkdf : IsAbsentOr (unsigned 5) (value_under 3 fields) ⊎ (value_under 3 fields ≡ Some (negative 9))
  pub algorithm : (value_under 4 fields ≡ Some (unsigned (algorithm_number material.alg))) ⊎ ((value_under 4 fields ≡ None) × (material.alg ≡ EightByteTag))
  pub salt : (value_under 5 fields ≡ Some (byte_string material.salt)) ⊎ ((value_under 5 fields ≡ None) × (material.salt ≡ []))
  pub salt_size : length material.salt ≤ 64
  pub id_context : value_under 6 fields ≡ option_map byte_string material.id_context
  pub id_context_size : ForSome material.id_context (λ bytes. length bytes ≤ 64)

-- cnf is a map that has the input material under the key osc.
pub record HasMaterial (claims : Pairs) (material : InputMaterial) : Type 0 where
  pub confirmation : Pairs
  pub fields : Pairs
  pub confirms : value_under 8 claims ≡ Some (map confirmation)
  pub osc : value_under 4 confirmation ≡ Some (map fields)
  pub is_material : IsMaterial fields material

-- scope is a byte string that is a scope
pub record HasScope (claims : Pairs) (bytes : List ℕ) (entries : List Entry) : Type 0 where
  pub scope : value_under 9 claims ≡ Some (byte_string bytes)
  pub is_scope : IsScope bytes entries

-- ---- what a token's claims come to: the checks in their order, of which the first that fails answers

-- readable, begun, not over
pub record AreInTime (text : List ℕ) (now : Moment) (said : Dated) : Type 0 where
  pub readable : IsClaims text said
  pub begun : HasBegun said.not_before now
  pub not_over : IsNotOver said.expires now

-- and for this audience
pub record AreFor (text audience : List ℕ) (now : Moment) (said : Dated) : Type 0 where
  pub in_time : AreInTime text now said
  pub addressed : value_under 3 said.claims ≡ Some (text_string audience)

-- and with input material
pub record AreBound (text audience : List ℕ) (now : Moment) (said : Dated) (material : InputMaterial) : Type 0 where
  pub for_it : AreFor text audience now said
  pub bound : HasMaterial said.claims material

pub data ComesTo (text audience : List ℕ) (now : Moment) (result : Result (Claims × Scope) TokenError) : Type 0 where
  unreadable : ((said : Dated) → ¬ IsClaims text said)
      → result ≡ Err BadClaims → ComesTo text audience now result
  not_yet : (said : Dated) → IsClaims text said → ¬ HasBegun said.not_before now
      → result ≡ Err NotYet → ComesTo text audience now result
  expired : (said : Dated) → IsClaims text said → HasBegun said.not_before now → ¬ IsNotOver said.expires now
      → result ≡ Err Expired → ComesTo text audience now result
  for_another : (said : Dated) → AreInTime text now said → value_under 3 said.claims ≢ Some (text_string audience)
      → result ≡ Err Audience → ComesTo text audience now result
  no_material : (said : Dated) → AreFor text audience now said
      → ((material : InputMaterial) → ¬ HasMaterial said.claims material)
      → result ≡ Err BadClaims → ComesTo text audience now result
  no_scope : (said : Dated) (material : InputMaterial) → AreBound text audience now said material
      → ((bytes : List ℕ) (entries : List Entry) → ¬ HasScope said.claims bytes entries)
      → result ≡ Err BadScope → ComesTo text audience now result
  granted : (said : Dated) (material : InputMaterial) (bytes : List ℕ) (entries : List Entry)
      → AreBound text audience now said material → HasScope said.claims bytes entries
      → result ≡ Ok (record { audience = audience; not_before = said.not_before; expires = said.expires; material = material; scope = bytes }, scope_of entries)
      → ComesTo text audience now result
