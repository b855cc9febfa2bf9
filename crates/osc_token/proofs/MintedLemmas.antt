-- Minted claims, read again.
use Rattle.std.proofs.Common.{◌≡◌, ◌⊎◌, inl, inr, ℕ, ◌≤◌, ◌<◌, ◌^◌, List, [], ◌∷◌, length, Option, Some, None, Ok, refl, sym, ap, subst, arith}
use Rattle.std.specs.Option.{option_map, ForSome, IfSome}
use Rattle.osc_model.specs.{HasBegun, IsNotOver, algorithm_number}
use Rattle.osc_model.specs.declared.node.Moment.{Moment}
use Rattle.osc_model.specs.declared.algorithm.Algorithm.{Algorithm}
use Rattle.osc_model.specs.declared.algorithm.Algorithm.TheVariants.{EightByteTag, SixteenByteTag}
use Rattle.osc_cbor.specs.{DataItem, unsigned, byte_string, text_string, map, Spells, HasSpelling, spelling}
use Rattle.osc_scope.specs.{Entry, IsScope, scope_of}
use Rattle.osc_token.specs.{IsMaterial, HasMaterial, ComesTo, HasLawfulParts, material_item, claims_item}
use Rattle.osc_token.specs.declared.claims.Claims.{Claims}
use Rattle.osc_token.specs.declared.claims.InputMaterial.{InputMaterial}
use Rattle.osc_token.proofs.FieldLemmas.{Field, fields, value_at, IsSpelled, are_spelled}

-- ---- the items as fields

abbrev pub salt_value : List ℕ → Option DataItem
salt_value [] = None
salt_value (byte ∷ bytes) = Some (byte_string (byte ∷ bytes))

abbrev pub alg_value : Algorithm → Option DataItem
alg_value EightByteTag = None
alg_value SixteenByteTag = Some (unsigned 30)

abbrev pub material_fields : InputMaterial → List Field
material_fields m =
    (0, Some (byte_string m.id)) ∷ (2, Some (byte_string m.secret)) ∷ (4, alg_value m.alg) ∷ (5, salt_value m.salt) ∷ (6, option_map byte_string m.id_context) ∷ []

pub material_is : (id secret salt : List ℕ) (context : Option (List ℕ)) (alg : Algorithm)
    → let m : InputMaterial = record { id = id; secret = secret; salt = salt; id_context = context; alg = alg } in material_item m ≡ map (fields (material_fields m))
material_is id secret [] None EightByteTag = refl
material_is id secret [] None SixteenByteTag = refl
material_is id secret [] (Some context) EightByteTag = refl
material_is id secret [] (Some context) SixteenByteTag = refl
material_is id secret (byte ∷ salt) None EightByteTag = refl
material_is id secret (byte ∷ salt) None SixteenByteTag = refl
material_is id secret (byte ∷ salt) (Some context) EightByteTag = refl
material_is id secret (byte ∷ salt) (Some context) SixteenByteTag = refl

abbrev pub confirmation : InputMaterial → DataItem
confirmation m = map (fields ((4, Some (material_item m)) ∷ []))

abbrev pub claims_fields : Claims → List Field
claims_fields c =
    (3, Some (text_string c.audience)) ∷ (4, option_map unsigned c.expires) ∷ (5, option_map unsigned c.not_before)
    ∷ (8, Some (confirmation c.material)) ∷ (9, Some (byte_string c.scope)) ∷ []

pub claims_are : (audience : List ℕ) (nbf exp : Option ℕ) (m : InputMaterial) (scope : List ℕ)
    → let c : Claims = record { audience = audience; not_before = nbf; expires = exp; material = m; scope = scope } in claims_item c ≡ map (fields (claims_fields c))
claims_are audience None None m scope = refl
claims_are audience None (Some exp) m scope = refl
claims_are audience (Some nbf) None m scope = refl
claims_are audience (Some nbf) (Some exp) m scope = refl

-- ---- they have spellings

number_spelled : (k : ℕ) (o : Option ℕ) → ForSome o (λ n. n < 2 ^ 64) → IfSome (option_map unsigned o) (IsSpelled k)
number_spelled k None fits = tt
number_spelled k (Some n) fits = (fits n refl, omega arith)

context_spelled : (k : ℕ) (o : Option (List ℕ)) → ForSome o (λ bytes. length bytes ≤ 64) → IfSome (option_map byte_string o) (IsSpelled k)
context_spelled k None fits = tt
context_spelled k (Some bytes) fits = let le = fits bytes refl in (omega (arith, le), omega arith)

salt_spelled : (k : ℕ) (salt : List ℕ) → length salt ≤ 64 → IfSome (salt_value salt) (IsSpelled k)
salt_spelled k [] le = tt
salt_spelled k (byte ∷ bytes) le = (omega arith, omega arith)

alg_spelled : (k : ℕ) (alg : Algorithm) → IfSome (alg_value alg) (IsSpelled k)
alg_spelled k EightByteTag = tt
alg_spelled k SixteenByteTag = (omega arith, omega arith)

material_spelled : (c : Claims) → HasLawfulParts c → IsSpelled 1 (material_item c.material)
material_spelled c has =
    let m = c.material in
    let is : material_item m ≡ map (fields (material_fields m)) = material_is m.id m.secret m.salt m.id_context m.alg in
    let bytes = λ (b : List ℕ) (le : length b ≤ 64). let lt : length b < 2 ^ 64 = omega arith in lt in
    subst (IsSpelled 1) (sym is) (are_spelled 0 0 (material_fields m) refl (omega arith) (
      omega arith,
      (bytes m.id has.id, omega arith),
      (
        omega arith,
        (bytes m.secret has.secret.1, omega arith),
        (
          omega arith,
          alg_spelled 0 m.alg,
          (
            omega arith,
            salt_spelled 0 m.salt has.salt,
            (omega arith, context_spelled 0 m.id_context has.id_context, tt),
          ),
        ),
      ),
    ))

claims_spelled : (c : Claims) → HasLawfulParts c → IsSpelled 3 (map (fields (claims_fields c)))
claims_spelled c has =
    let inner : IsSpelled 2 (confirmation c.material) =
    are_spelled 0 1 ((4, Some (material_item c.material)) ∷ []) refl (omega arith) (omega arith, material_spelled c has, tt) in
    are_spelled 0 2 (claims_fields c) refl (omega arith) (
      omega arith,
      (has.audience, omega arith),
      (
        omega arith,
        number_spelled 2 c.expires has.expires,
        (
          omega arith,
          number_spelled 2 c.not_before has.not_before,
          (
            omega arith,
            inner,
            (omega arith, (has.scope, omega arith), tt),
          ),
        ),
      ),
    )

-- ---- and hold what was claimed

salt_under : (salt : List ℕ) → (salt_value salt ≡ Some (byte_string salt)) ⊎ ((salt_value salt ≡ None) × (salt ≡ []))
salt_under [] = inr (refl, refl)
salt_under (byte ∷ bytes) = inl refl

alg_under : (alg : Algorithm) → (alg_value alg ≡ Some (unsigned (algorithm_number alg))) ⊎ ((alg_value alg ≡ None) × (alg ≡ EightByteTag))
alg_under EightByteTag = inr (refl, refl)
alg_under SixteenByteTag = inl refl

is_material : (c : Claims) → HasLawfulParts c → IsMaterial (fields (material_fields c.material)) c.material
is_material c has =
    let m = c.material in
    let fs = material_fields m in
    record {
      id = value_at 0 0 fs refl;
      id_size = has.id;
      version = inl (value_at 1 0 fs refl);
      secret = value_at 2 0 fs refl;
      secret_size = has.secret;
      hkdf = inl (inl (value_at 3 0 fs refl));
      algorithm = rw (value_at 4 0 fs refl) (alg_under m.alg);
      salt = rw (value_at 5 0 fs refl) (salt_under m.salt);
      salt_size = has.salt;
      id_context = value_at 6 0 fs refl;
      id_context_size = has.id_context;
    }

has_material : (c : Claims) → HasLawfulParts c → HasMaterial (fields (claims_fields c)) c.material
has_material c has =
    let m = c.material in
    let is : material_item m ≡ map (fields (material_fields m)) = material_is m.id m.secret m.salt m.id_context m.alg in
    record {
      confirmation = fields ((4, Some (material_item m)) ∷ []);
      fields = fields (material_fields m);
      confirms = value_at 8 0 (claims_fields c) refl;
      osc = ap Some is;
      is_material = is_material c has;
    }

pub come_to_themselves : (spells : (d : DataItem) → HasSpelling d → Spells (spelling d) d)
    (c : Claims) (entries : List Entry) (now : Moment) → HasLawfulParts c → IsScope c.scope entries
    → HasBegun c.not_before now → IsNotOver c.expires now
    → ComesTo (spelling (claims_item c)) c.audience now (Ok (c, scope_of entries))
come_to_themselves spells c entries now has is_scope begun not_over =
    let fs = claims_fields c in
    let spelled = claims_spelled c has in
    let is : claims_item c ≡ map (fields fs) = claims_are c.audience c.not_before c.expires c.material c.scope in
    let P : DataItem → Type 0 = λ d. ComesTo (spelling d) c.audience now (Ok (c, scope_of entries)) in
    subst P (sym is) (ComesTo.granted (record { claims = fields fs; not_before = c.not_before; expires = c.expires }) c.material c.scope entries
    (record {
      for_it = record {
        in_time = record {
          readable = record {
            whole = record { spelled = spells (map (fields fs)) spelled.0; shallow = omega (arith, spelled.1) };
            not_before = value_at 5 0 fs refl;
            expires = value_at 4 0 fs refl;
          };
          begun = begun;
          not_over = not_over;
        };
        addressed = value_at 3 0 fs refl;
      };
      bound = has_material c has;
    })
    (record { scope = value_at 9 0 fs refl; is_scope = is_scope })
    refl)
