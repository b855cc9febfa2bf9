-- What claims hold, computed from their item, and the table of claims.
use Rattle.std.proofs.Common.{◌≡◌, ◌⊎◌, inl, inr, ℕ, ◌≤◌, ◌==◌, Bool, true, false, ◌||◌, nat_lt, if◌then◌else◌, List, [], length, Option, Some, None, refl, sym, ap, ◌∙◌, arith, eq-eqb, eqb-true}
use Rattle.std.specs.Option.{option_map, option_and_then, ForSome, IfSome, IfNone}
use Rattle.std.proofs.lemmas.Bool.{and_parts, and_from, or_parts, or_from, ltb-false, le-ltb, cond-true, cond-false}
use Rattle.osc_model.specs.{algorithm_number}
use Rattle.osc_model.specs.declared.algorithm.Algorithm.{Algorithm}
use Rattle.osc_model.specs.declared.algorithm.Algorithm.TheVariants.{EightByteTag, SixteenByteTag}
use Rattle.osc_cbor.specs.{DataItem, unsigned, negative, byte_string, text_string, array, map, tag, bool, null, Pairs, value_under, as_unsigned, as_map, value}
use Rattle.osc_token.specs.{IsAbsentOr, IsMaterial, HasMaterial}
use Rattle.osc_token.specs.Inner.Reading.{pairs_in, date_of, dates_in, sized, is_absent_or, is_hkdf, are_known, algorithm_numbered, alg_of, salt_of, id_context_of, parts_of, material_of, material_in}
use Rattle.osc_token.specs.declared.claims.InputMaterial.{InputMaterial}
use Rattle.osc_token.specs.declared.judging.Dates.{Dates}

then_some : {A B : Type 0} (f : A → Option B) (o : Option A) (b : B) → option_and_then f o ≡ Some b → (a : A) × (o ≡ Some a) × (f a ≡ Some b)
then_some f None b e = cc
then_some f (Some a) b e = (a, refl, e)

map_some : {A B : Type 0} (f : A → B) (o : Option A) (b : B) → option_map f o ≡ Some b → (a : A) × (o ≡ Some a) × (f a ≡ b)
map_some f None b e = cc
map_some f (Some a) b e = (a, refl, cc)

if_some : {A : Type 0} (b : Bool) (o : Option A) (x : A) → (if b then o else None) ≡ Some x → (b ≡ true) × (o ≡ Some x)
if_some true o x e = (refl, e)
if_some false o x e = cc

-- the value under a label is that of the item's pairs
pub value_in : (label : ℕ) (d : DataItem) → value label d ≡ value_under label (pairs_in d)
value_in label (map ps) = refl
value_in label (unsigned n) = refl
value_in label (negative n) = refl
value_in label (byte_string b) = refl
value_in label (text_string b) = refl
value_in label (array ds) = refl
value_in label (tag n d) = refl
value_in label (bool b) = refl
value_in label null = refl

-- what has a value is a map
pub map_with_value : (label : ℕ) (d v : DataItem) → value label d ≡ Some v → d ≡ map (pairs_in d)
map_with_value label (map ps) v e = refl
map_with_value label (unsigned n) v e = cc
map_with_value label (negative n) v e = cc
map_with_value label (byte_string b) v e = cc
map_with_value label (text_string b) v e = cc
map_with_value label (array ds) v e = cc
map_with_value label (tag n d) v e = cc
map_with_value label (bool b) v e = cc
map_with_value label null v e = cc

map_is : (d : DataItem) (ps : Pairs) → as_map d ≡ Some ps → d ≡ map (pairs_in d)
map_is (map qs) ps e = refl
map_is (unsigned n) ps e = cc
map_is (negative n) ps e = cc
map_is (byte_string b) ps e = cc
map_is (text_string b) ps e = cc
map_is (array ds) ps e = cc
map_is (tag n d) ps e = cc
map_is (bool b) ps e = cc
map_is null ps e = cc

-- ---- dates

unsigned_is : (d : DataItem) (n : ℕ) → as_unsigned d ≡ Some n → d ≡ unsigned n
unsigned_is (unsigned m) n e = cc
unsigned_is (negative m) n e = cc
unsigned_is (byte_string b) n e = cc
unsigned_is (text_string b) n e = cc
unsigned_is (array ds) n e = cc
unsigned_is (map ps) n e = cc
unsigned_is (tag m d) n e = cc
unsigned_is (bool b) n e = cc
unsigned_is null n e = cc

date_is : (v : Option DataItem) (date : Option ℕ) → date_of v ≡ Some date → v ≡ option_map unsigned date
date_is None date e = cc
date_is (Some d) date e = let n = map_some Some (as_unsigned d) date e in cc (unsigned_is d n.0 n.1)

date_from : (v : Option DataItem) (date : Option ℕ) → v ≡ option_map unsigned date → date_of v ≡ Some date
date_from v None e = ap date_of e
date_from v (Some n) e = ap date_of e

-- the dates of a map
pub dates_are : (d : DataItem) (dates : Dates) → dates_in d ≡ Some dates
    → (d ≡ map (pairs_in d)) × (value_under 5 (pairs_in d) ≡ option_map unsigned dates.not_before) × (value_under 4 (pairs_in d) ≡ option_map unsigned dates.expires)
dates_are d dates e =
    let m = then_some _ (as_map d) dates e in
    let nbf = then_some _ (date_of (value 5 d)) dates m.2 in
    let exp = map_some _ (date_of (value 4 d)) dates nbf.2 in (
      map_is d m.0 m.1,
      sym (value_in 5 d) ∙ date_is (value 5 d) nbf.0 nbf.1 ∙ ap (λ (x : Dates). option_map unsigned x.not_before) exp.2,
      sym (value_in 4 d) ∙ date_is (value 4 d) exp.0 exp.1 ∙ ap (λ (x : Dates). option_map unsigned x.expires) exp.2,
    )

pub dates_from : (claims : Pairs) (nbf exp : Option ℕ) → value_under 5 claims ≡ option_map unsigned nbf → value_under 4 claims ≡ option_map unsigned exp
    → dates_in (map claims) ≡ Some (record { not_before = nbf; expires = exp })
dates_from claims nbf exp n e = rw (date_from (value_under 5 claims) nbf n, date_from (value_under 4 claims) exp e) refl

-- ---- bytes of a field

unless_some : {A : Type 0} (b : Bool) (x y : A) → (if b then None else Some x) ≡ Some y → (b ≡ false) × (x ≡ y)
unless_some true x y e = cc
unless_some false x y e = (refl, cc)

sized_are : (least : ℕ) (d : DataItem) (bytes : List ℕ) → sized least d ≡ Some bytes → (d ≡ byte_string bytes) × (least ≤ length bytes) × (length bytes ≤ 64)
sized_are least (byte_string b) bytes e =
    let fits = unless_some (nat_lt (length b) least || nat_lt 64 (length b)) b bytes e in
    let parts = or_parts (nat_lt (length b) least) (nat_lt 64 (length b)) fits.0 in
    let same = ap length fits.1 in (
      ap byte_string fits.1,
      omega (arith, same, ltb-false (length b) least parts.0),
      omega (arith, same, ltb-false 64 (length b) parts.1),
    )
sized_are least (unsigned n) bytes e = cc
sized_are least (negative n) bytes e = cc
sized_are least (text_string b) bytes e = cc
sized_are least (array ds) bytes e = cc
sized_are least (map ps) bytes e = cc
sized_are least (tag n d) bytes e = cc
sized_are least (bool b) bytes e = cc
sized_are least null bytes e = cc

sized_from : (least : ℕ) (bytes : List ℕ) → least ≤ length bytes → length bytes ≤ 64 → sized least (byte_string bytes) ≡ Some bytes
sized_from least bytes l m = cond-false _ _ _ (or_from _ _ (le-ltb (length bytes) least l) (le-ltb 64 (length bytes) m))

-- a field that has to be there
field_is : (least : ℕ) (v : Option DataItem) (bytes : List ℕ) → option_and_then (sized least) v ≡ Some bytes
    → (v ≡ Some (byte_string bytes)) × (least ≤ length bytes) × (length bytes ≤ 64)
field_is least v bytes e =
    let there = then_some (sized least) v bytes e in
    let is = sized_are least there.0 bytes there.2 in
    (there.1 ∙ ap Some is.0, is.1, is.2)

salt_is : (v : Option DataItem) (salt : List ℕ) → salt_of v ≡ Some salt
    → ((v ≡ Some (byte_string salt)) ⊎ ((v ≡ None) × (salt ≡ []))) × (length salt ≤ 64)
salt_is None salt e = let same : salt ≡ [] = cc in (inr (refl, same), omega (arith, ap length same))
salt_is (Some d) salt e = let is = sized_are 0 d salt e in (inl (ap Some is.0), is.2)

salt_from : (v : Option DataItem) (salt : List ℕ) → (v ≡ Some (byte_string salt)) ⊎ ((v ≡ None) × (salt ≡ [])) → length salt ≤ 64 → salt_of v ≡ Some salt
salt_from v salt (inl e) fits = ap salt_of e ∙ sized_from 0 salt (omega arith) fits
salt_from v salt (inr e) fits = ap salt_of e.0 ∙ ap Some (sym e.1)

context_is : (v : Option DataItem) (context : Option (List ℕ)) → id_context_of v ≡ Some context
    → (v ≡ option_map byte_string context) × ForSome context (λ bytes. length bytes ≤ 64)
context_is None context e = let same : None ≡ context = cc in (ap (option_map byte_string) same, λ bytes is. cc)
context_is (Some d) context e =
    let there = map_some Some (sized 0 d) context e in
    let is = sized_are 0 d there.0 there.1 in (
      ap Some is.0 ∙ ap (option_map byte_string) there.2,
      λ bytes some. let same : there.0 ≡ bytes = cc in omega (arith, ap length same, is.2),
    )

context_from : (v : Option DataItem) (context : Option (List ℕ)) → v ≡ option_map byte_string context → ForSome context (λ bytes. length bytes ≤ 64)
    → id_context_of v ≡ Some context
context_from v None e fits = ap id_context_of e
context_from v (Some bytes) e fits = ap id_context_of e ∙ ap (option_map Some) (sized_from 0 bytes (omega arith) (fits bytes refl))

-- ---- version and HKDF

absent_or_is : (number : ℕ) (v : Option DataItem) → is_absent_or number v ≡ true → IsAbsentOr (unsigned number) v
absent_or_is number None e = inl refl
absent_or_is number (Some (unsigned n)) e = inr (ap (λ x. Some (unsigned x)) (eqb-true n number e))
absent_or_is number (Some (negative n)) e = cc
absent_or_is number (Some (byte_string b)) e = cc
absent_or_is number (Some (text_string b)) e = cc
absent_or_is number (Some (array ds)) e = cc
absent_or_is number (Some (map ps)) e = cc
absent_or_is number (Some (tag n d)) e = cc
absent_or_is number (Some (bool b)) e = cc
absent_or_is number (Some null) e = cc

absent_or_from : (number : ℕ) (v : Option DataItem) → IsAbsentOr (unsigned number) v → is_absent_or number v ≡ true
absent_or_from number v (inl e) = ap (is_absent_or number) e
absent_or_from number v (inr e) = ap (is_absent_or number) e ∙ eq-eqb number number refl

abbrev IsHkdf : Option DataItem → Type 0
IsHkdf v = IsAbsentOr (unsigned 5) v ⊎ (v ≡ Some (negative 9))

hkdf_is : (v : Option DataItem) → is_hkdf v ≡ true → IsHkdf v
hkdf_is None e = inl (inl refl)
hkdf_is (Some (negative n)) e = inr (ap (λ x. Some (negative x)) (eqb-true n 9 e))
hkdf_is (Some (unsigned n)) e = inl (absent_or_is 5 (Some (unsigned n)) e)
hkdf_is (Some (byte_string b)) e = cc
hkdf_is (Some (text_string b)) e = cc
hkdf_is (Some (array ds)) e = cc
hkdf_is (Some (map ps)) e = cc
hkdf_is (Some (tag n d)) e = cc
hkdf_is (Some (bool b)) e = cc
hkdf_is (Some null) e = cc

hkdf_from : (v : Option DataItem) → IsHkdf v → is_hkdf v ≡ true
hkdf_from v (inl (inl e)) = ap is_hkdf e
hkdf_from v (inl (inr e)) = ap is_hkdf e
hkdf_from v (inr e) = ap is_hkdf e

-- ---- the algorithm

numbered_is : (n : ℕ) (alg : Algorithm) → algorithm_numbered n ≡ Some alg → n ≡ algorithm_number alg
numbered_is n alg e = first (n == 10) refl e
  where
    second : (b : Bool) → (n == 30) ≡ b → (if b then Some SixteenByteTag else None) ≡ Some alg → n ≡ algorithm_number alg
    second true is e = let same : SixteenByteTag ≡ alg = cc in eqb-true n 30 is ∙ ap algorithm_number same
    second false is e = absurd cc

    first : (b : Bool) → (n == 10) ≡ b → (if b then Some EightByteTag else if n == 30 then Some SixteenByteTag else None) ≡ Some alg → n ≡ algorithm_number alg
    first true is e = let same : EightByteTag ≡ alg = cc in eqb-true n 10 is ∙ ap algorithm_number same
    first false is e = second (n == 30) refl e

numbered_from : (alg : Algorithm) → algorithm_numbered (algorithm_number alg) ≡ Some alg
numbered_from EightByteTag = refl
numbered_from SixteenByteTag = refl

-- what was found by its number
pub found_by_number : (n : ℕ) (found : Option Algorithm) → IfSome found (λ alg. n ≡ algorithm_number alg) → IfNone found ((alg : Algorithm) → ¬ (n ≡ algorithm_number alg))
    → found ≡ algorithm_numbered n
found_by_number n (Some alg) is none = sym (ap algorithm_numbered is ∙ numbered_from alg)
found_by_number n None is none = by (algorithm_numbered n) refl
  where
    by : (its : Option Algorithm) → algorithm_numbered n ≡ its → None ≡ its
    by None e = refl
    by (Some alg) e = absurd (none (alg) (numbered_is n alg e))

alg_is : (v : Option DataItem) (alg : Algorithm) → alg_of v ≡ Some alg → (v ≡ Some (unsigned (algorithm_number alg))) ⊎ ((v ≡ None) × (alg ≡ EightByteTag))
alg_is None alg e = let same : EightByteTag ≡ alg = cc in inr (refl, sym same)
alg_is (Some d) alg e =
    let n = then_some algorithm_numbered (as_unsigned d) alg e in
    inl (ap Some (unsigned_is d n.0 n.1 ∙ ap unsigned (numbered_is n.0 alg n.2)))

alg_from : (v : Option DataItem) (alg : Algorithm) → (v ≡ Some (unsigned (algorithm_number alg))) ⊎ ((v ≡ None) × (alg ≡ EightByteTag)) → alg_of v ≡ Some alg
alg_from v alg (inl e) = ap alg_of e ∙ numbered_from alg
alg_from v alg (inr e) = ap alg_of e.0 ∙ ap Some (sym e.1)

-- ---- input material

parts_are : (d : DataItem) (m : InputMaterial) → are_known d ≡ true → parts_of d ≡ Some m → IsMaterial (pairs_in d) m
parts_are d m known e =
    let id = then_some _ (option_and_then (sized 0) (value 0 d)) m e in
    let secret = then_some _ (option_and_then (sized 1) (value 2 d)) m id.2 in
    let salt = then_some _ (salt_of (value 5 d)) m secret.2 in
    let context = then_some _ (id_context_of (value 6 d)) m salt.2 in
    let alg = map_some _ (alg_of (value 4 d)) m context.2 in
    let id_is = field_is 0 (value 0 d) m.id (id.1 ∙ ap (λ (x : InputMaterial). Some x.id) alg.2) in
    let secret_is = field_is 1 (value 2 d) m.secret (secret.1 ∙ ap (λ (x : InputMaterial). Some x.secret) alg.2) in
    let salt_is = salt_is (value 5 d) m.salt (salt.1 ∙ ap (λ (x : InputMaterial). Some x.salt) alg.2) in
    let context_is = context_is (value 6 d) m.id_context (context.1 ∙ ap (λ (x : InputMaterial). Some x.id_context) alg.2) in
    let alg_is = alg_is (value 4 d) m.alg (alg.1 ∙ ap (λ (x : InputMaterial). Some x.alg) alg.2) in
    let first = and_parts (is_absent_or 1 (value 1 d)) (is_hkdf (value 3 d)) known in
    record {
      id = rw value_in at id_is.0;
      id_size = id_is.2;
      version = rw value_in at (absent_or_is 1 (value 1 d) first.0);
      secret = rw value_in at secret_is.0;
      secret_size = (secret_is.1, secret_is.2);
      hkdf = rw value_in at (hkdf_is (value 3 d) first.1);
      algorithm = rw value_in at alg_is;
      salt = rw value_in at salt_is.0;
      salt_size = salt_is.1;
      id_context = rw value_in at context_is.0;
      id_context_size = context_is.1;
    }

parts_from : (fields : Pairs) (m : InputMaterial) → IsMaterial fields m → parts_of (map fields) ≡ Some m
parts_from fields m is =
    rw (is.id, sized_from 0 m.id (omega arith) is.id_size, is.secret, sized_from 1 m.secret is.secret_size.0 is.secret_size.1, salt_from (value_under 5 fields) m.salt is.salt is.salt_size, context_from (value_under 6 fields) m.id_context is.id_context is.id_context_size, alg_from (value_under 4 fields) m.alg is.algorithm) refl

known_from : (fields : Pairs) (m : InputMaterial) → IsMaterial fields m → are_known (map fields) ≡ true
known_from fields m is =
    and_from (is_absent_or 1 (value_under 1 fields)) (is_hkdf (value_under 3 fields)) (absent_or_from 1 _ is.version) (hkdf_from _ is.hkdf)

-- the material of an item is that of the claim cnf, ..
pub material_is : (d : DataItem) (m : InputMaterial) → material_in d ≡ Some m → HasMaterial (pairs_in d) m
material_is d m e =
    let fields = then_some material_of (option_and_then (value 4) (value 8 d)) m e in
    let confirmation = then_some (value 4) (value 8 d) fields.0 fields.1 in
    let known = if_some (are_known fields.0) (parts_of fields.0) m fields.2 in
    let parts = parts_are fields.0 m known.0 known.1 in
    let first = then_some _ (option_and_then (sized 0) (value 0 fields.0)) m known.1 in
    let id = then_some (sized 0) (value 0 fields.0) first.0 first.1 in
    record {
      confirmation = pairs_in confirmation.0;
      fields = pairs_in fields.0;
      confirms = sym (value_in 8 d) ∙ confirmation.1 ∙ ap Some (map_with_value 4 confirmation.0 fields.0 confirmation.2);
      osc = sym (value_in 4 confirmation.0) ∙ confirmation.2 ∙ ap Some (map_with_value 0 fields.0 id.0 id.1);
      is_material = parts;
    }

-- .. and the other way round
pub material_from : (d : DataItem) (m : InputMaterial) → HasMaterial (pairs_in d) m → material_in d ≡ Some m
material_from d m has =
    rw (value_in 8 d, has.confirms, has.osc) (cond-true (are_known (map has.fields)) (parts_of (map has.fields)) None (known_from has.fields m has.is_material) ∙ parts_from has.fields m has.is_material)
